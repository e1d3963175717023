use Rattle.std.proofs.Common.{rules, ◌≡◌, ◌+◌, length}
use Rattle.g1_command.proofs.ReadLines.{reads_line}
use Rattle.g1_command.proofs.streams.LineReader.read_into.Goals as goal

pub returns-in-Ok-clause-line : goal.returns-in-Ok-clause-line
returns-in-Ok-clause-line g c =
    let e = c.in-Ok.ensures in
    let count : length c.read_until.new.buf.items ≡ length c.args.line.now.items + c.in-Ok.count = search rules in
    reads_line _ _ c.args.line.now.items c.read_until.new.buf.items c.in-Ok.count count e.appends e.stops e.none_lost e.bytes
