use Rattle.g1_copy.specs.Headers.{AreAhead}
use Rattle.g1_copy.proofs.GatheringRuns.{Filling}
use Rattle.g1_copy.proofs.gathering.fill.Given as goal

abbrev pub invariant-loop-i : goal.invariant-loop-i
invariant-loop-i l = record { filling : Filling l.moving.heap l.moving.plan.survivors l.fn.run.region l.fn.run.from l.i l.words; ahead : AreAhead l.moving.heap l.moving.plan.survivors l.i l.ahead }
