use Rattle.std.proofs.Common.{length}
use Rattle.g1_trace.proofs.Tellings.{IsSoFar}
use Rattle.g1_trace.proofs.running.run_text.Given as goal

abbrev pub decreases-loop-rest : goal.decreases-loop-rest
decreases-loop-rest g l = length l.rest

-- so many lines are read, done and answered
abbrev pub invariant-loop-rest : goal.invariant-loop-rest
invariant-loop-rest g l = IsSoFar l.cost l.bytes l.mutator l.rest l.text.items l.lines
