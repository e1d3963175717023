use Rattle.g1_rem.proofs.Places.{ArePlaced}
use Rattle.g1_rem.proofs.cover.places_at.Given as goal

abbrev pub invariant-loop-set : goal.invariant-loop-set
invariant-loop-set l = ArePlaced l.fn.image l.card l.set-index l.places.items
