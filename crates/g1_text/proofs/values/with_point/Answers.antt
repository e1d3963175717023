use Rattle.std.proofs.Common.{◌≡◌, ◌<◌, ◌∷◌, ◌++◌, ℕ, length, get_or, refl, sym, ◌∙◌, subst, arith}
use Rattle.std.specs.Prelude.{MatchOption}
use Rattle.std.proofs.lemmas.Str.Pattern.{split_parts}
use Rattle.g1_text.specs.Forms.{HasPoint}
use Rattle.g1_text.proofs.Written.{floated}
use Rattle.g1_text.proofs.DataWords.{no_point, not_floated, not_nan}
use Rattle.g1_text.proofs.values.with_point.Goals as goal

pub returns : goal.returns
returns c =
    let bs = c.args.text.now in
    let parts = subst (λ r. MatchOption r ((i : ℕ) → i < length bs → get_or bs i 0 ≡ 46 → ⊥) (λ x. (bs ≡ x.0.now ++ (46 ∷ x.1.now)) × ((i : ℕ) → i < length x.0.now → get_or x.0.now i 0 ≡ 46 → ⊥))) c.in_ok-split_once.was
    (split_parts 46 bs c.split_once.result c.split_once.ensures.cases (omega arith)) in
    let x = c.in_ok-number.number in
    (_, _, x, parts.0, floated bs c.parse.result c.ok.result x c.parse.ensures.value.1 c.ok.ensures.value c.in_ok-number.was, sym c.is_nan.ensures.value ∙ c.if-is_nan.false, refl)

pub returns-in_err-split_once : goal.returns-in_err-split_once
returns-in_err-split_once c =
    let bs = c.args.text.now in
    let none = subst (λ r. MatchOption r ((i : ℕ) → i < length bs → get_or bs i 0 ≡ 46 → ⊥) (λ x. (bs ≡ x.0.now ++ (46 ∷ x.1.now)) × ((i : ℕ) → i < length x.0.now → get_or x.0.now i 0 ≡ 46 → ⊥))) c.in_err-split_once.was
    (split_parts 46 bs c.split_once.result c.split_once.ensures.cases (omega arith)) in
    subst (λ o. MatchOption o ((n : ℕ) → HasPoint n bs → ⊥) (λ n. HasPoint n bs)) (sym c.from_residual.ensures) (no_point bs none)

pub returns-in_err-number : goal.returns-in_err-number
returns-in_err-number c =
    let bs = c.args.text.now in
    subst (λ o. MatchOption o ((n : ℕ) → HasPoint n bs → ⊥) (λ n. HasPoint n bs)) (sym c.from_residual-in_err-number.ensures)
    (not_floated bs c.parse.result c.ok.result c.parse.ensures.value.1 c.ok.ensures.value c.in_err-number.was)

pub returns-then-is_nan : goal.returns-then-is_nan
returns-then-is_nan c =
    let bs = c.args.text.now in
    let x = c.in_ok-number.number in
    not_nan bs x (floated bs c.parse.result c.ok.result x c.parse.ensures.value.1 c.ok.ensures.value c.in_ok-number.was) (sym c.is_nan.ensures.value ∙ c.if-is_nan.true)
