use Rattle.g1_layout.proofs.Laying.{Placing}
use Rattle.g1_layout.proofs.placing.places.Given as goal

abbrev pub invariant-loop-i : goal.invariant-loop-i
invariant-loop-i l = Placing l.batch.heap.now l.batch.survivors.now l.i l.end l.places.items
