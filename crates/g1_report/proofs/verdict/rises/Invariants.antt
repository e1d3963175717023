use Rattle.g1_report.proofs.Rising.{RisesTo}
use Rattle.g1_report.proofs.verdict.rises.Given as goal

abbrev pub invariant-loop-place : goal.invariant-loop-place
invariant-loop-place l = RisesTo l.list l.place
