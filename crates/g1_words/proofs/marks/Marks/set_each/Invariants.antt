use Rattle.std.proofs.Common.{take}
use Rattle.g1_words.specs.Lists.{has}
use Rattle.g1_words.specs.Marks.{AreMarked}
use Rattle.g1_words.proofs.marks.Marks.set_each.Given as goal

abbrev pub invariant-loop-number : goal.invariant-loop-number
invariant-loop-number l = AreMarked (has (take l.number-index l.numbers)) l.initial.self l.self
