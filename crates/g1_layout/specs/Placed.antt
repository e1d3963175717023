-- What is asked of a set and its survivors before they are placed.
use Rattle.std.specs.Prelude.{◌≢◌, ◌≤◌, ◌<◌, ℕ, List, length, All, AllPairs, Contains}
use Rattle.std.specs.List.Sorted.{IsStrictlyIncreasing}
use Rattle.g1_words.specs.Geometry.{most_words}
use Rattle.g1_words.specs.Heap.{Heap, object_at, objects, region_of}
use Rattle.g1_words.specs.Survivors.{AllOrdinary}

-- the set is a rising list of ordinary regions, and the survivors are distinct starts of objects in it
pub record CanPlace (h : Heap) (set l : List ℕ) : Type 0 where
  pub rising : IsStrictlyIncreasing set
  pub ordinary : AllOrdinary h set
  pub objects : All (λ a. Contains (objects h) (object_at h a)) l
  pub in_set : All (λ a. Contains set (region_of h a)) l
  pub distinct : AllPairs (λ a b. a ≢ b) l

-- the addresses are among the words, what stands there fits in a region, and they are no more than a heap has words
pub record CanLay (h : Heap) (l : List ℕ) : Type 0 where
  pub in_words : All (λ a. a < length h.words) l
  pub filled : All (λ a. 0 < (object_at h a).size) l
  pub small : All (λ a. (object_at h a).size ≤ h.geometry.w) l
  pub few : length l ≤ most_words
