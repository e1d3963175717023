use Rattle.std.proofs.Common.{refl}
use Rattle.g1judge.proofs.judging.unread.Goals as goal

pub returns-in-Memory : goal.returns-in-Memory
returns-in-Memory c = c.in-Memory.is

pub returns-in_default : goal.returns-in_default
returns-in_default c = (refl, refl, c.in_default.not-Memory)
