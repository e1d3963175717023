-- The first value of a list, one after the other.
use Rattle.std.proofs.Common.{◌≡◌, ◌≤◌, ◌<◌, ℕ, zero, suc, ◌+◌, List, [], ◌∷◌, length, drop, slice_index_or, arith, refl, sym, ap, ◌∙◌}
use Rattle.std.specs.Prelude.{Option, None, Some}
use Rattle.g1_work.specs.Ranges.{first_some}

-- the value at a place
pub some_found : (found : List (Option ℕ)) (k p : ℕ) → k < length found → slice_index_or found k None ≡ Some p → first_some (drop k found) ≡ Some p
some_found [] k p lt e = absurd (omega (arith, lt))
some_found (x ∷ found) zero p lt e = ap (λ y. first_some (y ∷ found)) e
some_found (x ∷ found) (suc k) p lt e = some_found found k p (omega (arith, lt)) e

-- no value at a place
pub some_passed : (found : List (Option ℕ)) (k : ℕ) → k < length found → slice_index_or found k None ≡ None → first_some (drop k found) ≡ first_some (drop (k + 1) found)
some_passed [] k lt e = absurd (omega (arith, lt))
some_passed (x ∷ found) zero lt e = ap (λ y. first_some (y ∷ found)) e
some_passed (x ∷ found) (suc k) lt e =
    let next : suc k + 1 ≡ suc (k + 1) = omega arith in
    some_passed found k (omega (arith, lt)) e ∙ sym (ap (λ m. first_some (drop m (x ∷ found))) next)

-- past the end
pub some_over : (found : List (Option ℕ)) (k : ℕ) → length found ≤ k → first_some (drop k found) ≡ None
some_over [] zero le = refl
some_over [] (suc k) le = refl
some_over (x ∷ found) zero le = absurd (omega (arith, le))
some_over (x ∷ found) (suc k) le = some_over found k (omega (arith, le))
