-- Lists whose places rise.
use Rattle.std.proofs.Common.{◌≡◌, ℕ, zero, suc, ◌+◌, ◌-◌, ◌<◌, ◌≤◌, List, length, refl, subst, sym, arith, AllPairs}
use Rattle.std.specs.Prelude.{slice_index_or}
use Rattle.g1_image.specs.Stale.{HasLowerPlace}

-- each place up to the one at i is below the next one
abbrev pub RisesTo : List (ℕ × ℕ) → ℕ → Type 0
RisesTo l i = (k : ℕ) (d : ℕ × ℕ) → k + 1 < i → HasLowerPlace (slice_index_or l k d) (slice_index_or l (k + 1) d)

far : (l : List (ℕ × ℕ)) (m : ℕ) → RisesTo l m → (n i j : ℕ) (d : ℕ × ℕ) → j ≡ i + n + 1 → j < m → HasLowerPlace (slice_index_or l i d) (slice_index_or l j d)
far l m r zero i j d e lt =
    let same : j ≡ i + 1 = omega (arith, e) in
    let here : HasLowerPlace (slice_index_or l i d) (slice_index_or l (i + 1) d) = r i d (omega (arith, e, lt)) in
    subst (λ x. HasLowerPlace (slice_index_or l i d) (slice_index_or l x d)) (sym same) here
far l m r (suc n) i j d e lt =
    let k : ℕ = i + n + 1 in
    let same : j ≡ i + n + 1 + 1 = omega (arith, e) in
    let before : HasLowerPlace (slice_index_or l i d) (slice_index_or l (i + n + 1) d) = far l m r n i (i + n + 1) d refl (omega (arith, e, lt)) in
    let last : HasLowerPlace (slice_index_or l (i + n + 1) d) (slice_index_or l (i + n + 1 + 1) d) = r (i + n + 1) d (omega (arith, e, lt)) in
    let both : HasLowerPlace (slice_index_or l i d) (slice_index_or l (i + n + 1 + 1) d) = omega (arith, before, last) in
    subst (λ x. HasLowerPlace (slice_index_or l i d) (slice_index_or l x d)) (sym same) both

pub pairs_rise : (l : List (ℕ × ℕ)) (m : ℕ) → RisesTo l m → length l ≤ m → AllPairs HasLowerPlace l
pairs_rise l m r le i j d lt len = far l m r (j - (i + 1)) i j d (omega (arith, lt)) (omega (arith, le, len))
