use Rattle.std.proofs.Common.{◌++◌, string_bytes}
use Rattle.std.proofs.lemmas.Result.{on_ok_weaker}
use Rattle.g1_report.specs.Wording.{same_line}
use Rattle.g1_report.specs.Answer.{moved_text, kept_text}
use Rattle.g1_report.specs.Given.{compared}
use Rattle.g1_report.proofs.Joined.{joined}
use Rattle.g1_report.proofs.verdict.push_same_text.Goals as goal

pub returns : goal.returns
returns c = λ h.
    let s = compared c.args.sides in
    let a = c.args.asked.now in
    let r = c.args.renaming.now in
    let first = string_bytes c.push_same_line.new.text in
    let second = string_bytes c.push_moved.new.text in
    let last = string_bytes c.push_kept.new.text in
    let moved = moved_text a.moved s r.before.items r.after.items in
    let kept = kept_text a.set.now in
    on_ok_weaker c.push_kept.result
    (λ e. joined (string_bytes c.args.text.now) first last (same_line s.before r.before.items) (moved ++ kept) c.in_ok-push_same_line.ensures (joined first second last moved kept (c.in_ok-push_moved.ensures h) e))
    c.push_kept.ensures
