-- How large the numbers of a region are.
use Rattle.std.proofs.Common.{◌≡◌, ℕ, ◌<◌, ◌≤◌, arith, subst}
use Rattle.g1_words.specs.Geometry.{most_region_words}
use Rattle.g1_words.specs.declared.region.Kind.TheVariants.{Ordinary}
use Rattle.g1_words.specs.Heap.{Heap, kind, top}
use Rattle.g1_words.specs.Valid.{IsShapedBy, IsValid}

-- an ordinary region has no more used words than a region may have words
pub ordinary_top : (h : Heap) (r : ℕ) → IsValid h → r < h.geometry.n → kind h r ≡ Ordinary → top h r ≤ most_region_words
ordinary_top h r valid lt e =
    let shape : IsShapedBy Ordinary h r = subst (λ k. IsShapedBy k h r) e (valid.shaped r lt).by_kind in
    omega (arith, shape.1, valid.limits.w_most)
