use Rattle.std.proofs.Common.{◌≤◌}
use Rattle.g1_text.specs.Forms.{IsDataWord, Many, HasFront}
use Rattle.g1_text.proofs.named.check_data.Given as goal

abbrev pub invariant-loop : goal.invariant-loop
invariant-loop l = HasFront (Many IsDataWord l.counter) l.fn.words l.words × (l.counter ≤ l.fn.count)
