use Rattle.g1_words.specs.Layout.{moved_to}
use Rattle.g1_copy.proofs.GatheringCopies.{Renaming}
use Rattle.g1_copy.proofs.gathering.rename.Given as goal

abbrev pub invariant-loop-k : goal.invariant-loop-k
invariant-loop-k l = Renaming (moved_to l.plan.survivors l.plan.places) l.fn.words l.k l.words
