-- A line that begins with `#` says nothing.
use Rattle.std.proofs.Common.{◌≡◌, ℕ, Bool, true, false, List, ◌∷◌, get_or, eqb, eq-eqb, Decides, sym, ◌∙◌, ap, arith}
use Rattle.std.specs.Prelude.{not}
use Rattle.std.proofs.lemmas.Bool.{false≢true}
use Rattle.std.proofs.lemmas.Bool.Decides.{nat_tests}
use Rattle.g1_text.specs.Reading.{says_something}

module _ (words rest : List (List ℕ)) (first : List ℕ) (r : Bool) (is : words ≡ first ∷ rest) (tests : Decides r (get_or first 0 0 ≡ 35)) where
  pub comment : r ≡ true → says_something words ≡ false
  comment t = ap says_something is ∙ ap not (eq-eqb (get_or first 0 0) 35 (tests.0 t))

  other_byte : (b : ℕ) → (b ≡ 35 → ⊥) → eqb b 35 ≡ false
  other_byte b n = grind (arith, nat_tests)

  pub statement : r ≡ false → says_something words ≡ true
  statement f = ap says_something is ∙ ap not (other_byte (get_or first 0 0) (λ e. false≢true (sym f ∙ tests.1 e)))
