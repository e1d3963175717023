use Rattle.std.proofs.Common.{arith}
use Rattle.g1_frontier.proofs.numbers.window_words.Goals as goal

pub loop-number-smaller : goal.loop-number-smaller
loop-number-smaller c = omega (arith, c.loop-number-test.true)
