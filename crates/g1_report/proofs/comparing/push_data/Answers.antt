use Rattle.std.proofs.Common.{◌++◌, ◌∙◌, ap, append_assoc, string_bytes}
use Rattle.std.specs.Prelude.{codes, decimal}
use Rattle.g1_report.specs.Wording.{word_name, word_name_text, value_text, values_text}
use Rattle.g1_report.specs.Given.{compared}
use Rattle.g1_report.proofs.Joined.{joined}
use Rattle.g1_words.proofs.Logic.{last_push}
use Rattle.g1_report.proofs.comparing.push_data.Goals as goal

pub returns : goal.returns
returns c = λ h.
    let s = compared c.args.sides in
    let k = c.args.word in
    let ends = c.args.ends.now in
    let old = string_bytes c.args.text.now in
    let t0 = string_bytes c.write.new.self in
    let t1 = string_bytes c.push_word_name.new.text in
    let t2 = string_bytes c.push_value.new.text in
    let t3 = string_bytes c.push_value-2.new.text in
    let last = string_bytes c.push_str.new.self in
    let name = word_name_text (word_name s ends.before k) in
    let u = value_text s.names s.texts_before ends.word_before in
    let v = value_text s.names s.texts_after ends.word_after in
    let end = codes " after" in
    let r2 = (codes " before, " ++ v) ++ end in
    let r1 = (codes " is " ++ u) ++ r2 in
    last_push c.push_str.result last (t3 ++ end) t3 (old ++ values_text s ends.before k ends.word_before ends.word_after)
    (λ e. joined old t0 last (codes "; data word " ++ decimal k) (name ++ r1) c.in_ok-write.ensures.bytes
    (joined t0 t1 last name r1 (c.in_ok-push_word_name.ensures ∙ ap (λ n. t0 ++ word_name_text n) (c.word_name.ensures h))
    (joined t1 t2 last (codes " is " ++ u) r2 (c.in_ok-push_value.ensures h.names) (joined t2 t3 last (codes " before, " ++ v) end (c.in_ok-push_value-2.ensures h.names) e)))
    ∙ ap (λ xs. old ++ xs)
    (append_assoc (codes "; data word ") (decimal k) (name ++ r1)
    ∙ ap (λ xs. codes "; data word " ++ (decimal k ++ (name ++ xs)))
    (append_assoc (codes " is ") u r2 ∙ ap (λ xs. codes " is " ++ (u ++ xs)) (append_assoc (codes " before, ") v end))))
    c.push_str.ensures.bytes
