use Rattle.std.proofs.Common.{arith}
use Rattle.g1_frontier.proofs.rooms.push_spans.Goals as goal

pub loop-span-smaller : goal.loop-span-smaller
loop-span-smaller c = omega (arith, c.loop-span-test.true)
