use Rattle.std.proofs.Common.{string_bytes}
use Rattle.std.proofs.lemmas.Result.{on_ok_weaker}
use Rattle.g1_explain.proofs.Purchased.{live_end}
use Rattle.g1_explain.proofs.choosing.push_live_line.Goals as goal

pub returns-then-is_ordinary : goal.returns-then-is_ordinary
returns-then-is_ordinary c =
    on_ok_weaker c.writeln.result
    (live_end (string_bytes c.args.text.now) (string_bytes c.writeln.new.self) c.args.number c.args.live c.garbage_in-garbage.result c.args.cards c.args.region
    c.if-is_ordinary.ensures.value c.garbage_in-garbage.ensures) c.writeln.ensures.bytes
