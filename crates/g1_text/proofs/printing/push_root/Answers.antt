use Rattle.std.proofs.Common.{◌∷◌, ◌++◌, [], string_bytes}
use Rattle.g1_text.specs.Lines.{line_text, root_line}
use Rattle.g1_text.proofs.Printed.{root_end}
use Rattle.g1_words.proofs.Logic.{last_push}
use Rattle.g1_text.proofs.printing.push_root.Goals as goal

pub returns : goal.returns
returns c =
    let old = string_bytes c.args.text.now in
    let now = string_bytes c.push_reference.new.text in
    let last = string_bytes c.push_str.new.self in
    last_push c.push_str.result last (now ++ 10 ∷ []) now (old ++ line_text (root_line c.args.number c.args.root))
    (root_end old (string_bytes c.push_field.new.text) now last c.args.number c.args.root c.in_ok-push_field.ensures c.in_ok-push_reference.ensures) c.push_str.ensures.bytes
