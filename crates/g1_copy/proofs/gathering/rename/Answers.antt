use Rattle.std.proofs.Common.{arith}
use Rattle.g1_copy.proofs.gathering.rename.Goals as goal

pub loop-k-smaller : goal.loop-k-smaller
loop-k-smaller c = omega (arith, c.loop-k-test.true)
