use Rattle.std.proofs.Common.{◌-◌, ◌≤◌}
use Rattle.g1_words.specs.Marks.{AreUnset}
use Rattle.g1_words.proofs.marks.Marks.next_set.Given as goal

abbrev pub invariant-words : goal.invariant-words
invariant-words l = (l.from ≤ l.at) × AreUnset l.self l.from l.at

abbrev pub decreases-words : goal.decreases-words
decreases-words l = l.self-inside.count - l.at
