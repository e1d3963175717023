use Rattle.std.proofs.Common.{string_bytes}
use Rattle.std.proofs.lemmas.Result.{on_ok_weaker}
use Rattle.g1_text.proofs.Printed.{header_end}
use Rattle.g1_text.proofs.printing.push_header.Goals as goal

pub returns : goal.returns
returns c =
    on_ok_weaker c.push_field-3.result
    (header_end (string_bytes c.args.text.now) (string_bytes c.push_field.new.text) (string_bytes c.push_field-2.new.text) (string_bytes c.push_field-3.new.text) c.args.object.now
    c.in_ok-push_field.ensures c.in_ok-push_field-2.ensures) c.push_field-3.ensures
