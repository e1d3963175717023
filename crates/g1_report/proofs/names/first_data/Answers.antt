use Rattle.std.proofs.Common.{ℕ, List, [], length, sym, ◌∙◌, arith}
use Rattle.std.specs.Borrow.{Bor}
use Rattle.std.proofs.lemmas.List.{length-map}
use Rattle.std.proofs.lemmas.List.Sums.{position_or_len_is}
use Rattle.g1_report.specs.Program.{texts, is_data}
use Rattle.g1_report.proofs.names.first_data.Goals as goal

pub returns-then-has_data_at-clause-value : goal.returns-then-has_data_at-clause-value
returns-then-has_data_at-clause-value c =
    let l = c.args.words.now in
    let now : Bor (List ℕ) → List ℕ = λ b. b.now in
    let many = length-map l now in
    sym (position_or_len_is is_data (texts l) c.loop-place.place [] (omega (arith, many, c.loop-place-test.true)) c.loop-place.invariant (λ lt. sym c.has_data_at.ensures.value ∙ c.if-has_data_at.true))

pub returns-clause-value : goal.returns-clause-value
returns-clause-value c =
    let l = c.args.words.now in
    let now : Bor (List ℕ) → List ℕ = λ b. b.now in
    let many = length-map l now in
    sym (position_or_len_is is_data (texts l) (length l) [] (omega (arith, many)) (λ k lt. c.loop-place.invariant k (omega (arith, lt, c.loop-place-test.false))) (λ lt. absurd (omega (arith, lt, many))))
