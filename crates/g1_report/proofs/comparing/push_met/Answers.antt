use Rattle.std.proofs.Common.{◌++◌, string_bytes}
use Rattle.std.specs.Prelude.{codes}
use Rattle.g1_report.specs.Wording.{object_text, met_text}
use Rattle.g1_report.specs.Given.{listed}
use Rattle.g1_report.proofs.Joined.{joined}
use Rattle.g1_words.proofs.Logic.{last_push}
use Rattle.g1_report.proofs.comparing.push_met.Goals as goal

pub returns : goal.returns
returns c = λ h k.
    let old = string_bytes c.args.text.now in
    let first = string_bytes c.push_str.new.self in
    let second = string_bytes c.push_of_side.new.text in
    let third = string_bytes c.push_str-2.new.self in
    let now = string_bytes c.push_of_side-2.new.text in
    let last = string_bytes c.push_str-3.new.self in
    let a = object_text (listed c.args.object.0) c.args.object.1 ++ (codes " " ++ c.args.object.2.now) in
    let b = object_text (listed c.args.first.0) c.args.first.1 ++ (codes " " ++ c.args.first.2.now) in
    let end = codes " on an earlier path" in
    last_push c.push_str-3.result last (now ++ end) now (old ++ met_text a b)
    (λ e. joined old first last (codes "; ") (a ++ (codes " is " ++ (b ++ end))) c.in_ok-push_str.ensures.bytes
    (joined first second last a (codes " is " ++ (b ++ end)) (c.in_ok-push_of_side.ensures h)
    (joined second third last (codes " is ") (b ++ end) c.in_ok-push_str-2.ensures.bytes (joined third now last b end (c.in_ok-push_of_side-2.ensures k) e))))
    c.push_str-3.ensures.bytes
