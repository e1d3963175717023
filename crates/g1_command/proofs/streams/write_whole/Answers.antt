use Rattle.g1_command.proofs.Delivered.{flushed}
use Rattle.g1_command.proofs.streams.write_whole.Goals as goal

pub returns-in-Ok : goal.returns-in-Ok
returns-in-Ok g c =
    flushed c.args.bytes.now (g.W.Write.contents c.args.writer.now) (g.W.Write.contents c.write_all.new.writer) (g.W.Write.contents c.flush.new.self)
    c.flush.result c.in-Ok.ensures c.flush.ensures.bytes
