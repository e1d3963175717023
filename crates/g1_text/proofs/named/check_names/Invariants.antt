use Rattle.std.proofs.Common.{◌≤◌}
use Rattle.g1_text.specs.Forms.{IsTarget, Many, HasFront}
use Rattle.g1_text.proofs.named.check_names.Given as goal

abbrev pub invariant-loop-slot : goal.invariant-loop-slot
invariant-loop-slot l = HasFront (Many IsTarget l.slot) l.fn.words l.words × (l.slot ≤ l.fn.count)
