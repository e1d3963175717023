use Rattle.std.proofs.Common.{map}
use Rattle.std.specs.Map.Iter.{deref_pair}
use Rattle.g1_report.specs.Shared.{IsLeastOf}
use Rattle.g1_report.proofs.sides.shared_text.Given as goal

abbrev pub invariant-loop-word : goal.invariant-loop-word
invariant-loop-word l = IsLeastOf l.before.texts.entries (map deref_pair l.yielded) l.least
