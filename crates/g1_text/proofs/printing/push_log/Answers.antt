use Rattle.std.proofs.Common.{string_bytes}
use Rattle.std.proofs.lemmas.Result.{on_ok_weaker}
use Rattle.g1_text.proofs.Printed.{log_end}
use Rattle.g1_text.proofs.printing.push_log.Goals as goal

pub returns : goal.returns
returns c =
    on_ok_weaker c.push_cards.result
    (log_end (string_bytes c.args.text.now) (string_bytes c.push_str.new.self) (string_bytes c.push_cards.new.text) c.args.cards.now c.if-is_empty.ensures c.in_ok-push_str.ensures.bytes)
    c.push_cards.ensures
