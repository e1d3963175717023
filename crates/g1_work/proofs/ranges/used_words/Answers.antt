use Rattle.std.proofs.Common.{arith}
use Rattle.g1_work.proofs.ranges.used_words.Goals as goal

pub loop-region-smaller : goal.loop-region-smaller
loop-region-smaller c = omega (arith, c.loop-region-test.true)
