-- What a call passes on.
use Rattle.std.proofs.Common.{◌≡◌, sym, subst}
use Rattle.std.specs.Prelude.{Result, Ok, Err, IfErr}
use Rattle.std.specs.Result.{IsErrAnd}
use Rattle.g1_words.specs.Heap.{Heap}

-- an error that a `?` returns as it is
pub passed_on : {T E : Type 0} (P : E → Type 0) (r : Result T E) (e : E) → IsErrAnd r (λ d. d ≡ e) → P e → IfErr r P
passed_on P (Ok x) e h p = absurd h
passed_on P (Err y) e h p = subst P (sym h) p

-- a fact on two heaps that are two others
pub of_heaps : (P : Heap → Heap → Type 0) (f g k h : Heap) → f ≡ g → k ≡ h → P f k → P g h
of_heaps P f g k h a b p = subst (λ x. P x h) a (subst (λ x. P f x) b p)
