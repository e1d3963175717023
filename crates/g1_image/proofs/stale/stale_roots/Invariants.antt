use Rattle.g1_image.proofs.StaleWords.{Gathers, RootsBelow}
use Rattle.g1_image.proofs.stale.stale_roots.Given as goal

abbrev pub invariant-loop-i : goal.invariant-loop-i
invariant-loop-i l = Gathers (RootsBelow l.draft l.i) l.found.items
