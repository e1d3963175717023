use Rattle.std.proofs.Common.{◌≡◌, ◌≢◌, ◌∙◌, ◌<◌, ℕ, ◌∷◌, ◌++◌, length, get_or, sym, subst, arith}
use Rattle.std.specs.Prelude.{MatchOption, decimal}
use Rattle.std.specs.Option.{option_zip}
use Rattle.std.proofs.lemmas.Str.Pattern.{split_parts}
use Rattle.g1_text.specs.Forms.{HasSize}
use Rattle.g1_text.proofs.Numbers.{at_slash, cut_size, read_size}
use Rattle.g1_text.proofs.words.size_and_slots.Goals as goal

pub returns-in_err-size-clause-full : goal.returns-in_err-size-clause-full
returns-in_err-size-clause-full c = λ size slots fs fr e.
    absurd (subst (λ r. MatchOption r ⊥ (λ x. (x.0.now ≡ decimal size) × (x.1.now ≡ decimal slots))) c.in_err-size.was
    (at_slash size slots c.args.text.now c.split_once.result c.split_once.ensures.cases fs e))

pub returns-clause-full : goal.returns-clause-full
returns-clause-full c = λ size slots fs fr e.
    let parts = subst (λ r. MatchOption r ⊥ (λ x. (x.0.now ≡ decimal size) × (x.1.now ≡ decimal slots))) c.in_ok-size.was
    (at_slash size slots c.args.text.now c.split_once.result c.split_once.ensures.cases fs e) in
    let first = c.whole.ensures.full size fs parts.0 in
    let second = c.whole-2.ensures.full slots fr parts.1 in
    c.zip.ensures ∙ (λ t. option_zip (first t) (second t))

pub returns-in_err-size-clause-digits : goal.returns-in_err-size-clause-digits
returns-in_err-size-clause-digits c =
    subst (λ o. MatchOption o ((size slots : ℕ) → HasSize size slots c.args.text.now → ⊥) (λ x. HasSize x.0 x.1 c.args.text.now)) (sym c.from_residual.ensures)
    (λ size slots h. subst (λ r. MatchOption r ⊥ (λ x. (x.0.now ≡ h.0) × (x.1.now ≡ h.1))) c.in_err-size.was
    (cut_size size slots c.args.text.now c.split_once.result c.split_once.ensures.cases h))

pub returns-clause-digits : goal.returns-clause-digits
returns-clause-digits c =
    let bs = c.args.text.now in
    let parts = subst (λ r. MatchOption r ((i : ℕ) → i < length bs → get_or bs i 0 ≢ 47) (λ x. (bs ≡ x.0.now ++ (47 ∷ x.1.now)) × ((i : ℕ) → i < length x.0.now → get_or x.0.now i 0 ≢ 47))) c.in_ok-size.was
    (split_parts 47 bs c.split_once.result c.split_once.ensures.cases (omega arith)) in
    subst (λ o. MatchOption o ((size slots : ℕ) → HasSize size slots bs → ⊥) (λ x. HasSize x.0 x.1 bs)) (sym c.zip.ensures)
    (read_size bs c.in_ok-size.size.now c.in_ok-size.slots.now c.whole.result c.whole-2.result parts.0
    (λ size slots h. subst (λ r. MatchOption r ⊥ (λ x. (x.0.now ≡ h.0) × (x.1.now ≡ h.1))) c.in_ok-size.was
    (cut_size size slots bs c.split_once.result c.split_once.ensures.cases h))
    c.whole.ensures.digits c.whole-2.ensures.digits)
