use Rattle.std.proofs.Common.{◌≡◌, ◌≢◌, ◌^◌, ◌∷◌, ℕ, List, sym, subst, arith}
use Rattle.std.specs.Prelude.{MatchOption}
use Rattle.std.proofs.lemmas.Str.Pattern.{strip_prefix_char}
use Rattle.g1_text.specs.Forms.{Spells, IsBelow, Negates}
use Rattle.g1_text.proofs.DataWords.{minus_below, minus_small}
use Rattle.g1_text.proofs.values.negative.Goals as goal

pub returns-in_err-strip_prefix : goal.returns-in_err-strip_prefix
returns-in_err-strip_prefix c =
    let bs = c.args.text.now in
    let none = subst (λ r. MatchOption r ((rest : List ℕ) → bs ≢ 45 ∷ rest) (λ x. bs ≡ 45 ∷ x.now)) c.in_err-strip_prefix.was
    (strip_prefix_char 45 bs c.strip_prefix.result c.strip_prefix.ensures.cases (omega arith)) in
    subst (λ o. MatchOption o ((n : ℕ) → Negates n bs → ⊥) (λ n. Negates n bs)) (sym c.from_residual.ensures) (λ n h. none h.0 h.2)

pub returns-in_err-number : goal.returns-in_err-number
returns-in_err-number c =
    let bs = c.args.text.now in
    let rest = c.in_ok-strip_prefix.field-0.now in
    let cut = subst (λ r. MatchOption r ((rest : List ℕ) → bs ≢ 45 ∷ rest) (λ x. bs ≡ 45 ∷ x.now)) c.in_ok-strip_prefix.was
    (strip_prefix_char 45 bs c.strip_prefix.result c.strip_prefix.ensures.cases (omega arith)) in
    let none = subst (λ r. MatchOption r (IsBelow (2 ^ 64) rest → ⊥) (λ n. Spells (2 ^ 64) n rest)) c.in_err-number.was c.whole.ensures.digits in
    subst (λ o. MatchOption o ((n : ℕ) → Negates n bs → ⊥) (λ n. Negates n bs)) (sym c.from_residual-in_err-number.ensures) (λ n h. none (minus_below n bs rest h cut))

pub returns-then-number : goal.returns-then-number
returns-then-number c =
    let bs = c.args.text.now in
    let cut = subst (λ r. MatchOption r ((rest : List ℕ) → bs ≢ 45 ∷ rest) (λ x. bs ≡ 45 ∷ x.now)) c.in_ok-strip_prefix.was
    (strip_prefix_char 45 bs c.strip_prefix.result c.strip_prefix.ensures.cases (omega arith)) in
    λ n h. let small = minus_small n c.in_ok-number.number bs c.in_ok-strip_prefix.field-0.now h cut c.in_ok-number.ensures.digits in absurd (omega (arith, small, c.if-number.true))

pub returns-then-number-eq0 : goal.returns-then-number-eq0
returns-then-number-eq0 c =
    let bs = c.args.text.now in
    let cut = subst (λ r. MatchOption r ((rest : List ℕ) → bs ≢ 45 ∷ rest) (λ x. bs ≡ 45 ∷ x.now)) c.in_ok-strip_prefix.was
    (strip_prefix_char 45 bs c.strip_prefix.result c.strip_prefix.ensures.cases (omega arith)) in
    let read = c.in_ok-number.ensures.digits in
    (c.in_ok-strip_prefix.field-0.now, c.in_ok-number.number, cut, (read.0, read.1, omega (arith, c.if-number.false)), omega (arith, c.if-number-eq0.true))

pub returns : goal.returns
returns c =
    let bs = c.args.text.now in
    let cut = subst (λ r. MatchOption r ((rest : List ℕ) → bs ≢ 45 ∷ rest) (λ x. bs ≡ 45 ∷ x.now)) c.in_ok-strip_prefix.was
    (strip_prefix_char 45 bs c.strip_prefix.result c.strip_prefix.ensures.cases (omega arith)) in
    let read = c.in_ok-number.ensures.digits in
    (c.in_ok-strip_prefix.field-0.now, c.in_ok-number.number, cut, (read.0, read.1, omega (arith, c.if-number.false)), omega (arith, c.if-number-eq0.false, read.2))
