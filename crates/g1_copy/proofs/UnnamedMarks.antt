-- Marks of the regions in which roots name objects, and the list of the first regions.
use Rattle.std.proofs.Common.{◌≡◌, ℕ, ◌-◌, ◌/◌, ◌<◌, List, length, slice_index, All, sym, subst, arith}
use Rattle.g1_words.specs.Heap.{Heap}
use Rattle.g1_words.specs.Valid.{IsReference, IsValid}
use Rattle.g1_rem.proofs.Bare.{target_there}

-- what a root names lies in one of the regions
pub root_home : (h : Heap) → IsValid h → (roots : List ℕ) (k : ℕ) → roots ≡ h.roots → k < length roots → 0 < slice_index roots k → (slice_index roots k - 1) / h.geometry.w < h.geometry.n
root_home h valid roots k e lt some =
    let reference : IsReference h (slice_index roots k) = subst (All (IsReference h)) (sym e) valid.roots k 0 lt in
    target_there h (slice_index roots k) (slice_index roots k - 1) valid reference (omega arith)
