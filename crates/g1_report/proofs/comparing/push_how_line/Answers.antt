use Rattle.std.proofs.Common.{◌++◌, ◌∙◌, ap, string_bytes}
use Rattle.std.specs.Prelude.{codes}
use Rattle.g1_report.specs.Wording.{how_word, path_text, before_text, after_text, detail_text, place_line}
use Rattle.g1_report.specs.Given.{compared}
use Rattle.g1_report.proofs.Joined.{joined}
use Rattle.g1_words.proofs.Lists.{in_front}
use Rattle.g1_words.proofs.Logic.{last_push}
use Rattle.g1_report.proofs.comparing.push_how_line.Goals as goal

pub returns : goal.returns
returns c = λ h.
    let s = compared c.args.sides in
    let x = c.args.ends.now.before in
    let y = c.args.ends.now.after in
    let how = c.args.how.now in
    let old = string_bytes c.args.text.now in
    let t1 = string_bytes c.push_differ.new.text in
    let t2 = string_bytes c.push_path.new.text in
    let t3 = string_bytes c.push_before.new.text in
    let t4 = string_bytes c.push_after.new.text in
    let t5 = string_bytes c.push_detail.new.text in
    let last = string_bytes c.push_str.new.self in
    let path = path_text s c.args.path.0 c.args.path.1.now in
    let d = detail_text s how x y ++ codes "\n" in
    let a = after_text s y ++ d in
    let b = before_text s x ++ a in
    let head = codes "differ " ++ (how_word how ++ codes " at ") in
    last_push c.push_str.result last (t5 ++ codes "\n") t5 (old ++ place_line s c.args.path.0 c.args.path.1.now how x y)
    (λ e. joined old t1 last head (path ++ b) c.in_ok-push_differ.ensures
    (joined t1 t2 last path b (c.in_ok-push_path.ensures h)
    (joined t2 t3 last (before_text s x) a (c.in_ok-push_before.ensures h)
    (joined t3 t4 last (after_text s y) d (c.in_ok-push_after.ensures h)
    (joined t4 t5 last (detail_text s how x y) (codes "\n") (c.in_ok-push_detail.ensures h) e))))
    ∙ ap (λ xs. old ++ xs) (in_front (codes "differ ") (how_word how) (codes " at ") (path ++ b)))
    c.push_str.ensures.bytes
