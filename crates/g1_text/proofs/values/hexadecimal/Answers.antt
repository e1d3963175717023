use Rattle.std.proofs.Common.{◌≡◌, ◌≢◌, ◌∷◌, ◌∙◌, ℕ, List, drop, sym, ap, subst, arith}
use Rattle.std.specs.Prelude.{MatchOption}
use Rattle.std.proofs.lemmas.Bool.{false≢true}
use Rattle.std.proofs.lemmas.Str.Pattern.{strip_prefix_char, starts_char}
use Rattle.g1_text.specs.Forms.{HasHexDigits}
use Rattle.g1_text.proofs.DataWords.{hex_read, no_plus}
use Rattle.g1_text.proofs.values.hexadecimal.Goals as goal

pub returns-in_err-strip_prefix : goal.returns-in_err-strip_prefix
returns-in_err-strip_prefix c =
    let bs = c.args.text.now in
    let none = subst (λ r. MatchOption r ((rest : List ℕ) → bs ≢ 48 ∷ rest) (λ x. bs ≡ 48 ∷ x.now)) c.in_err-strip_prefix.was
    (strip_prefix_char 48 bs c.strip_prefix.result c.strip_prefix.ensures.cases (omega arith)) in
    subst (λ o. MatchOption o ((n : ℕ) → HasHexDigits n bs → ⊥) (λ n. HasHexDigits n bs)) (sym c.from_residual.ensures) (λ n h. none (120 ∷ h.0) h.1)

pub returns-in_err-digits : goal.returns-in_err-digits
returns-in_err-digits c =
    let bs = c.args.text.now in
    let rest = c.in_ok-strip_prefix.field-0.now in
    let first = subst (λ r. MatchOption r ((rest : List ℕ) → bs ≢ 48 ∷ rest) (λ x. bs ≡ 48 ∷ x.now)) c.in_ok-strip_prefix.was
    (strip_prefix_char 48 bs c.strip_prefix.result c.strip_prefix.ensures.cases (omega arith)) in
    let none = subst (λ r. MatchOption r ((left : List ℕ) → rest ≢ 120 ∷ left) (λ x. rest ≡ 120 ∷ x.now)) c.in_err-digits.was
    (strip_prefix_char 120 rest c.strip_prefix-2.result c.strip_prefix-2.ensures.cases (omega arith)) in
    subst (λ o. MatchOption o ((n : ℕ) → HasHexDigits n bs → ⊥) (λ n. HasHexDigits n bs)) (sym c.from_residual-in_err-digits.ensures) (λ n h. none h.0 (ap (drop 1) (sym first ∙ h.1)))

pub returns-then-starts_with : goal.returns-then-starts_with
returns-then-starts_with c = λ n h.
    let bs = c.args.text.now in
    let rest = c.in_ok-strip_prefix.field-0.now in
    let digits = c.in_ok-digits.digits.now in
    let first = subst (λ r. MatchOption r ((rest : List ℕ) → bs ≢ 48 ∷ rest) (λ x. bs ≡ 48 ∷ x.now)) c.in_ok-strip_prefix.was
    (strip_prefix_char 48 bs c.strip_prefix.result c.strip_prefix.ensures.cases (omega arith)) in
    let second = subst (λ r. MatchOption r ((left : List ℕ) → rest ≢ 120 ∷ left) (λ x. rest ≡ 120 ∷ x.now)) c.in_ok-digits.was
    (strip_prefix_char 120 rest c.strip_prefix-2.result c.strip_prefix-2.ensures.cases (omega arith)) in
    let tests = starts_char 43 digits c.starts_with.result c.starts_with.ensures.cases (omega arith) (omega arith) in
    no_plus n bs digits (first ∙ ap (λ l. 48 ∷ l) second) (tests.0 c.if-starts_with.true) h

pub returns : goal.returns
returns c =
    let bs = c.args.text.now in
    let rest = c.in_ok-strip_prefix.field-0.now in
    let digits = c.in_ok-digits.digits.now in
    let first = subst (λ r. MatchOption r ((rest : List ℕ) → bs ≢ 48 ∷ rest) (λ x. bs ≡ 48 ∷ x.now)) c.in_ok-strip_prefix.was
    (strip_prefix_char 48 bs c.strip_prefix.result c.strip_prefix.ensures.cases (omega arith)) in
    let second = subst (λ r. MatchOption r ((left : List ℕ) → rest ≢ 120 ∷ left) (λ x. rest ≡ 120 ∷ x.now)) c.in_ok-digits.was
    (strip_prefix_char 120 rest c.strip_prefix-2.result c.strip_prefix-2.ensures.cases (omega arith)) in
    let tests = starts_char 43 digits c.starts_with.result c.starts_with.ensures.cases (omega arith) (omega arith) in
    subst (λ o. MatchOption o ((n : ℕ) → HasHexDigits n bs → ⊥) (λ n. HasHexDigits n bs)) (sym c.ok.ensures.value)
    (hex_read digits bs c.from_str_radix.result c.from_str_radix.ensures.value (λ e. false≢true (sym c.if-starts_with.false ∙ tests.1 e)) (first ∙ ap (λ l. 48 ∷ l) second))
