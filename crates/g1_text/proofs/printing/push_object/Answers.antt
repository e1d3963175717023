use Rattle.std.proofs.Common.{◌∷◌, ◌++◌, ◌∙◌, [], arith, string_bytes}
use Rattle.g1_text.specs.Lines.{line_text, object_line}
use Rattle.g1_text.proofs.Printed.{object_end}
use Rattle.g1_words.proofs.Logic.{last_push}
use Rattle.g1_text.proofs.printing.push_object.Goals as goal

pub returns : goal.returns
returns c =
    let old = string_bytes c.args.text.now in
    let now = string_bytes c.push_data.new.text in
    let last = string_bytes c.push_str.new.self in
    let words = c.args.words.now.items in
    let object = c.args.object.now in
    let here = c.laid-laid.ensures.range in
    last_push c.push_str.result last (now ++ 10 ∷ []) now (old ++ line_text (object_line words object))
    (object_end old (string_bytes c.push_header.new.text) (string_bytes c.push_references.new.text) now last c.slots.result.now c.data.result.now words object
    (c.slots.ensures.value ∙ here _ _ (omega (arith, c.requires.laid, c.requires.refs))) (c.data.ensures.value ∙ here _ _ c.requires.laid) c.in_ok-push_header.ensures c.in_ok-push_references.ensures c.in_ok-push_data.ensures) c.push_str.ensures.bytes
