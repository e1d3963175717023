use Rattle.std.proofs.Common.{◌≡◌, ◌∷◌, ◌++◌, sym, subst, string_bytes}
use Rattle.g1_report.specs.Wording.{stale_line}
use Rattle.std.specs.Prelude.{IfOk}
use Rattle.g1_report.specs.Answer.{IsAnswer}
use Rattle.g1_report.specs.Given.{compared}
use Rattle.g1_report.proofs.Answering.{answer_differ, answer_stale}
use Rattle.g1_report.specs.Finding.{IsFinding}
use Rattle.g1_same.proofs.Following.{end_names}
use Rattle.g1_report.proofs.Found.{stale_reached}
use Rattle.g1_same.proofs.Held.{before_valid}
use Rattle.g1_report.proofs.verdict.verdict_on.Goals as goal

pub returns-in_ok-push_stale_line-in-Stale-clause-verdict : goal.returns-in_ok-push_stale_line-in-Stale-clause-verdict
returns-in_ok-push_stale_line-in-Stale-clause-verdict c =
    let g = c.args.sides.heaps.before.now in
    let h = c.args.sides.heaps.after.now in
    let a = c.args.asked.now in
    stale_reached g h a.after.now.stale a.set.now a.fill c.in-Stale.end (subst (λ f. IsFinding g h a.after.now.stale f) c.in-Stale.is c.requires)

pub returns-in-Same-clause-text : goal.returns-in-Same-clause-text
returns-in-Same-clause-text c = λ h.
    let s = compared c.args.sides in
    subst (λ f. IfOk c.verdict_on_same.result (λ v. IsAnswer s c.args.asked.now f v.status (string_bytes v.text))) (sym c.in-Same.is) (c.verdict_on_same.ensures.text h)

pub returns-in_ok-push_difference_line-in-Differ-clause-text : goal.returns-in_ok-push_difference_line-in-Differ-clause-text
returns-in_ok-push_difference_line-in-Differ-clause-text c = λ h.
    answer_differ (compared c.args.sides) c.args.asked.now c.args.finding.now c.in-Differ.difference (string_bytes c.new-text.result) (string_bytes c.push_difference_line.new.text) c.in-Differ.is
    c.new-text.ensures.bytes (c.in_ok-push_difference_line-in-Differ.ensures h)

pub returns-in_ok-push_stale_line-in-Stale-clause-text : goal.returns-in_ok-push_stale_line-in-Stale-clause-text
returns-in_ok-push_stale_line-in-Stale-clause-text c = λ h.
    let s = compared c.args.sides in
    let e = c.in-Stale.end in
    let old = string_bytes c.new-text-in-Stale.result in
    let new = string_bytes c.push_stale_line.new.text in
    answer_stale s c.args.asked.now c.args.finding.now e old new c.in-Stale.is c.new-text-in-Stale.ensures.bytes
    (subst (λ l. new ≡ old ++ stale_line s e.root l e.before e.word) c.as_slice.ensures.value (c.in_ok-push_stale_line-in-Stale.ensures h))

-- the word before is a reference, since a path leads to it
pub push_stale_line-requires : goal.push_stale_line-requires
push_stale_line-requires c =
    let g = c.args.sides.heaps.before.now in
    let h = c.args.sides.heaps.after.now in
    let a = c.args.asked.now in
    let e = c.in-Stale.end in
    let found = subst (λ f. IsFinding g h a.after.now.stale f) c.in-Stale.is c.requires in
    end_names g (before_valid c.args.sides.heaps) (e.root ∷ e.slots.items) e.before found.1.0.0
