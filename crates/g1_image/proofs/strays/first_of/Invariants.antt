use Rattle.g1_words.specs.Heap.{start}
use Rattle.g1_image.specs.Strays.{SlotsBetween}
use Rattle.g1_image.proofs.strays.first_of.Given as goal

abbrev pub invariant-loop-r : goal.invariant-loop-r
invariant-loop-r l = SlotsBetween l.draft (start l.draft l.from) (start l.draft l.r)
