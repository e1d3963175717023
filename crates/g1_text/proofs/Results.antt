-- What two facts of one result say together.
use Rattle.std.proofs.Common.{◌≡◌, ◌≢◌, ℕ, List, ◌∷◌, sym, ◌∙◌, ap}
use Rattle.std.specs.Prelude.{Result, Ok, Err, is_ok, MatchResult, OnOk}
use Rattle.std.proofs.lemmas.Bool.{false≢true}
use Rattle.std.proofs.lemmas.Result.{MatchResult-at_ok}

abbrev value_or : {T E : Type 0} → T → Result T E → T
value_or d (Ok x) = x
value_or d (Err e) = d

module _ {T E : Type 0} {r : Result T E} where
  -- the value is one
  pub ok_one : {x y : T} → r ≡ Ok x → r ≡ Ok y → x ≡ y
  ok_one {x} {y} p q = ap (value_or x) (sym p ∙ q)

  -- a result is not both
  pub not_both : {x : T} {e : E} → r ≡ Err e → r ≡ Ok x → ⊥
  not_both p q = false≢true (ap is_ok (sym p ∙ q))

-- a word that was read stood there
pub word_read : {T E : Type 0} {x : T} {word : List ℕ} (r : Result T E) (old new : List (List ℕ)) → r ≡ Ok x
    → MatchResult r (λ _. old ≡ word ∷ new) (λ _. (rest : List (List ℕ)) → old ≢ word ∷ rest) → old ≡ word ∷ new
word_read {word} r old new is m = MatchResult-at_ok (λ _. old ≡ word ∷ new) (λ _. (rest : List (List ℕ)) → old ≢ word ∷ rest) _ is m

-- what holds in any case
pub on_ok : {T E P : Type 0} (r : Result T E) → P → OnOk r P
on_ok (Ok x) p = p
on_ok (Err e) p = tt

-- and what follows from it
pub on_ok_then : {T E P Q : Type 0} (r : Result T E) → (P → Q) → OnOk r P → OnOk r Q
on_ok_then (Ok x) f p = f p
on_ok_then (Err e) f p = tt
