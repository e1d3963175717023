use Rattle.g1_image.proofs.Taken.{range_passed}
use Rattle.g1_image.proofs.buffer.Buffer.pass.Goals as goal

pub returns-clause-left : goal.returns-clause-left
returns-clause-left c = let a = c.args.self.now in range_passed a.room.items a.start a.end c.args.count c.requires
