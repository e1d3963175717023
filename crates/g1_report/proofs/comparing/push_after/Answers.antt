use Rattle.std.proofs.Common.{◌++◌, ◌∙◌, ap, append_assoc, string_bytes}
use Rattle.std.specs.Prelude.{codes}
use Rattle.g1_report.specs.Wording.{word_text, kind_text, kind_after, after_text}
use Rattle.g1_report.specs.Given.{compared}
use Rattle.g1_report.proofs.Joined.{joined}
use Rattle.g1_words.proofs.Logic.{last_push}
use Rattle.g1_report.proofs.comparing.push_after.Goals as goal

pub returns : goal.returns
returns c = λ h.
    let s = compared c.args.sides in
    let old = string_bytes c.args.text.now in
    let first = string_bytes c.push_word.new.text in
    let second = string_bytes c.push_type.new.text in
    let last = string_bytes c.push_str.new.self in
    let word = word_text s.objects_after c.args.word in
    let kind = kind_text (kind_after s c.args.word) in
    let end = codes " after" in
    last_push c.push_str.result last (second ++ end) second (old ++ after_text s c.args.word)
    (λ e. joined old first last (codes ", " ++ word) (kind ++ end) (c.in_ok-push_word.ensures h.in_order.objects_after)
    (joined first second last kind end (c.in_ok-push_type.ensures ∙ ap (λ k. first ++ kind_text k) (c.kind_after.ensures h)) e)
    ∙ ap (λ xs. old ++ xs) (append_assoc (codes ", ") word (kind ++ end)))
    c.push_str.ensures.bytes
