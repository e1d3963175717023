use Rattle.std.proofs.Common.{arith}
use Rattle.g1_copy.proofs.unnamed.one_names.Goals as goal

pub loop-card-smaller : goal.loop-card-smaller
loop-card-smaller c = omega (arith, c.loop-card-test.true)
