use Rattle.std.proofs.Common.{◌++◌, string_bytes}
use Rattle.std.specs.Prelude.{codes}
use Rattle.std.proofs.lemmas.Result.{on_ok_weaker}
use Rattle.g1_report.specs.Wording.{name_in, path_text, before_text, stale_text}
use Rattle.g1_report.specs.Given.{compared}
use Rattle.g1_report.proofs.Joined.{joined}
use Rattle.g1_report.proofs.staling.push_stale_line.Goals as goal

pub returns : goal.returns
returns c = λ h.
    let s = compared c.args.sides in
    let old = string_bytes c.args.text.now in
    let t1 = string_bytes c.push_str.new.self in
    let t2 = string_bytes c.push_path.new.text in
    let t3 = string_bytes c.push_before.new.text in
    let last = string_bytes c.push_stale.new.text in
    let path = path_text s c.args.path.0 c.args.path.1.now in
    let b = before_text s c.args.old in
    let z = stale_text s c.args.old c.args.word (name_in s.stale c.args.word) in
    on_ok_weaker c.push_stale.result
    (λ e. joined old t1 last (codes "differ stale at ") (path ++ (b ++ z)) c.in_ok-push_str.ensures.bytes
    (joined t1 t2 last path (b ++ z) (c.in_ok-push_path.ensures h) (joined t2 t3 last b z (c.in_ok-push_before.ensures h) e)))
    (c.push_stale.ensures h)
