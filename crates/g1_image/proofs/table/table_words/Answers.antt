use Rattle.std.proofs.Common.{arith}
use Rattle.g1_image.proofs.table.table_words.Goals as goal

pub loop-e-smaller : goal.loop-e-smaller
loop-e-smaller c = omega (arith, c.loop-e-test.true)
