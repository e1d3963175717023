use Rattle.std.proofs.Common.{arith}
use Rattle.g1_trace.proofs.parsing.split_at_byte.Goals as goal

pub loop-i-smaller : goal.loop-i-smaller
loop-i-smaller c = omega (arith, c.loop-i-test.true)
