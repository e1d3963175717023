-- The first of a list that rises.
use Rattle.std.proofs.Common.{◌≡◌, ◌≤◌, ℕ, List, slice_index, arith, ap, subst}
use Rattle.std.specs.Prelude.{Option, Some, Contains}
use Rattle.std.specs.List.Sorted.{IsStrictlyIncreasing}
use Rattle.g1_rem.specs.Cover.{IsFirstOf}
use Rattle.g1_rem.proofs.Rising.{Rises-above, increasing-Rises}

-- the first of a rising list is its least
pub first_least : (xs : List ℕ) (found : Option ℕ) → IsStrictlyIncreasing xs → IsFirstOf xs found → (p q : ℕ) → found ≡ Some p → Contains xs q → p ≤ q
first_least xs found rising first p q e c =
    let f : IsFirstOf xs (Some p) = subst (IsFirstOf xs) e first in
    let at : slice_index xs 0 ≡ p = ap (λ l. slice_index l 0) f.1 in
    Rises-above p xs q (increasing-Rises xs p rising (λ lt. omega (arith, at))) c
