use Rattle.g1_report.specs.Answer.{CountsFrom}
use Rattle.g1_report.proofs.sides.add_strays.Given as goal

abbrev pub invariant-loop-place : goal.invariant-loop-place
invariant-loop-place l = CountsFrom 0 l.fn.names.items → CountsFrom 0 l.names.items
