use Rattle.std.proofs.Common.{◌≡◌, ◌≢◌, [], ◌∷◌, ◌++◌, ◌∙◌, ℕ, List, drop, sym, ap, subst, arith}
use Rattle.std.specs.Prelude.{MatchOption}
use Rattle.std.proofs.lemmas.Str.Pattern.{strip_prefix_char, strip_suffix_char}
use Rattle.g1_text.specs.Forms.{Quotes}
use Rattle.g1_text.proofs.values.quoted.Goals as goal

pub returns-in_err-strip_prefix : goal.returns-in_err-strip_prefix
returns-in_err-strip_prefix c =
    let bs = c.args.text.now in
    let none = subst (λ r. MatchOption r ((rest : List ℕ) → bs ≢ 34 ∷ rest) (λ x. bs ≡ 34 ∷ x.now)) c.in_err-strip_prefix.was
    (strip_prefix_char 34 bs c.strip_prefix.result c.strip_prefix.ensures.cases (omega arith)) in
    subst (λ o. MatchOption o ((n : ℕ) → Quotes n bs → ⊥) (λ n. Quotes n bs)) (sym c.from_residual.ensures) (λ n h. none (h.0 ++ 34 ∷ []) h.1)

pub returns-in_err-inner : goal.returns-in_err-inner
returns-in_err-inner c =
    let bs = c.args.text.now in
    let rest = c.in_ok-strip_prefix.field-0.now in
    let first = subst (λ r. MatchOption r ((rest : List ℕ) → bs ≢ 34 ∷ rest) (λ x. bs ≡ 34 ∷ x.now)) c.in_ok-strip_prefix.was
    (strip_prefix_char 34 bs c.strip_prefix.result c.strip_prefix.ensures.cases (omega arith)) in
    let none = subst (λ r. MatchOption r ((front : List ℕ) → rest ≢ front ++ 34 ∷ []) (λ x. rest ≡ x.now ++ 34 ∷ [])) c.in_err-inner.was
    (strip_suffix_char 34 rest c.strip_suffix.result c.strip_suffix.ensures.cases (omega arith)) in
    subst (λ o. MatchOption o ((n : ℕ) → Quotes n bs → ⊥) (λ n. Quotes n bs)) (sym c.from_residual-in_err-inner.ensures) (λ n h. none h.0 (ap (drop 1) (sym first ∙ h.1)))
