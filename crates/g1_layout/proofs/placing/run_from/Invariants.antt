use Rattle.std.proofs.Common.{◌-◌, length}
use Rattle.g1_layout.proofs.Running.{Running}
use Rattle.g1_layout.proofs.placing.run_from.Given as goal

abbrev pub invariant-loop-to : goal.invariant-loop-to
invariant-loop-to l = Running l.batch.heap.now l.places l.region l.from l.to

abbrev pub decreases-loop-to : goal.decreases-loop-to
decreases-loop-to l = length l.batch.survivors.now - l.to
