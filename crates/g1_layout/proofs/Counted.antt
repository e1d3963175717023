-- The words of survivors, counted one survivor after another.
use Rattle.std.proofs.Common.{◌≡◌, ℕ, ◌+◌, ◌*◌, ◌<◌, ◌≤◌, List, length, get_or, take, sum, sum_by, refl, sym, ◌∙◌, ap, arith}
use Rattle.std.proofs.Math.Seq.{take-length}
use Rattle.std.proofs.lemmas.List.{get_or-map, length-map, take_more}
use Rattle.std.proofs.lemmas.List.Sums.{sum-map, sum_by_push}
use Rattle.g1_words.specs.Geometry.{most_region_words}
use Rattle.g1_words.specs.Heap.{Heap, object_at}
use Rattle.g1_words.specs.Layout.{sizes_of}
use Rattle.g1_layout.specs.Placed.{CanLay}

module _ (h : Heap) (l : List ℕ) where
  abbrev pub size : ℕ → ℕ
  size a = (object_at h a).size

  -- so many words have the first i survivors
  pub record Counted (i count : ℕ) : Type 0 where
    pub is : count ≡ sum_by size (take i l)
    pub few : count ≤ i * most_region_words

  pub Counted-start : Counted 0 0
  Counted-start = record { is = refl; few = omega arith }

  pub Counted-step : (i count s : ℕ) → CanLay h l → h.geometry.w ≤ most_region_words → i < length l → s ≡ size (get_or l i 0) → Counted i count → Counted (i + 1) (count + s)
  Counted-step i count s can most there e before = record {
    is =
        let m : sum_by size (take (i + 1) l) ≡ sum_by size (take i l) + size (get_or l i 0) = ap (sum_by size) (take_more l i 0 there) ∙ sum_by_push size (take i l) (get_or l i 0) in
        omega (arith, m, e, before.is);
    few = let small = can.small i 0 there in omega (arith, e, before.few);
  }

  pub Counted-end : (i count : ℕ) → Counted i count → i ≡ length l → count ≡ sum (sizes_of h l)
  Counted-end i count k e = k.is ∙ ap (λ n. sum_by size (take n l)) e ∙ ap (sum_by size) (take-length l) ∙ sym (sum-map size l)

-- of sizes that were read, the one at an index is the survivor's
pub size_read : (h : Heap) (l sizes : List ℕ) (i : ℕ) → sizes ≡ sizes_of h l → i < length l → get_or sizes i 0 ≡ (object_at h (get_or l i 0)).size
size_read h l sizes i is lt = ap (λ xs. get_or xs i 0) is ∙ get_or-map (λ a. (object_at h a).size) l i 0 0 lt

-- and there is one for each survivor
pub one_each : (h : Heap) (l sizes : List ℕ) → sizes ≡ sizes_of h l → length sizes ≡ length l
one_each h l sizes is = ap length is ∙ length-map l (λ a. (object_at h a).size)
