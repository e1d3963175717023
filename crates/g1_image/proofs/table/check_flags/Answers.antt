use Rattle.std.proofs.Common.{arith}
use Rattle.g1_image.proofs.table.check_flags.Goals as goal

pub loop-r-smaller : goal.loop-r-smaller
loop-r-smaller c = omega (arith, c.loop-r-test.true)

pub loop-r-init : goal.loop-r-init
loop-r-init c = λ q lt. absurd (omega (arith, lt))

pub returns-clause-ok : goal.returns-clause-ok
returns-clause-ok c = λ r lt. c.loop-r.invariant r (omega (arith, lt, c.loop-r-test.false))
