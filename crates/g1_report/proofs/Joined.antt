-- Texts that are pushed one behind the other.
use Rattle.std.proofs.Common.{◌≡◌, List, ℕ, ◌++◌, ◌∙◌, sym, ap, append_assoc}
use Rattle.std.proofs.lemmas.Option.{none-some}
use Rattle.std.specs.Prelude.{Option, Some, None}

-- a push behind another one
pub joined : (old now after a b : List ℕ) → now ≡ old ++ a → after ≡ now ++ b → after ≡ old ++ (a ++ b)
joined old now after a b p q = q ∙ ap (λ xs. xs ++ b) p ∙ append_assoc old a b

-- a push behind one that pushed nothing
pub joined_none : (old now after b : List ℕ) → now ≡ old → after ≡ now ++ b → after ≡ old ++ b
joined_none old now after b p q = q ∙ ap (λ xs. xs ++ b) p

-- a value is not there, and there
pub never : {A : Type 0} (P : Type 0) (o : Option A) (x : A) → o ≡ None → o ≡ Some x → P
never P o x e f = absurd (none-some x (sym e ∙ f))
