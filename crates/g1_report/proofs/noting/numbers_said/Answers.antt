use Rattle.std.proofs.Common.{List, ℕ, [], sym, ap, ◌∙◌, append-nil}
use Rattle.std.specs.Prelude.{Some, None}
use Rattle.std.specs.Borrow.{Bor}
use Rattle.g1_report.proofs.NotedLines.{next_number}
use Rattle.g1_report.proofs.noting.numbers_said.Goals as goal
use Rattle.g1_report.proofs.noting.numbers_said.Goals.{in-Some+in_ok-push, in_default}

pub loop-word-preserved : goal.loop-word-preserved
loop-word-preserved c =
    let none : Bor (List ℕ) = record { ref_ptr = (0, 0); now = [] } in
    let old = c.loop-word.numbers.items in
    elim c.match-number_said.branch [
      | in-Some+in_ok-push w ↦
          next_number c.args.words.now c.loop-word.word-index none old c.match-number_said.numbers.items (Some w.in-Some.number) c.loop-word-test.true c.loop-word.invariant
          (sym w.in-Some.is ∙ c.number_said.ensures) (ap (λ v. v.items) w.numbers-is ∙ w.in_ok-push.ensures.items)
      | in_default w ↦
          next_number c.args.words.now c.loop-word.word-index none old c.match-number_said.numbers.items None c.loop-word-test.true c.loop-word.invariant
          (sym w.in_default.is ∙ c.number_said.ensures) (ap (λ v. v.items) w.numbers-is ∙ sym (append-nil old))
    ]
