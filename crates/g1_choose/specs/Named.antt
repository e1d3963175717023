-- Lists of regions that a caller names.
use Rattle.std.specs.Prelude.{◌≢◌, ◌≤◌, ◌<◌, ◌⊎◌, ℕ, List, take, length, slice_index, Contains, AllPairs, IsTrue, IsFalse}
use Rattle.g1_words.specs.declared.region.Kind.TheVariants.{Ordinary}
use Rattle.g1_words.specs.Heap.{Heap, kind, pinned}
use Rattle.g1_words.specs.Survivors.{AllOrdinary}

-- the regions of the list are ordinary ones that aren't pinned, each named once
pub record AreTakeable (h : Heap) (list : List ℕ) : Type 0 where
  pub ordinary : AllOrdinary h list
  pub unpinned : (r : ℕ) → Contains list r → IsFalse (pinned h r)
  pub distinct : AllPairs (λ r q. r ≢ q) list

-- the region at a place of the list is out of range, isn't ordinary, is pinned, or stands earlier in the list
abbrev pub IsBadAt : Heap → List ℕ → ℕ → Type 0
IsBadAt h list i =
    (h.geometry.n ≤ slice_index list i) ⊎ ((kind h (slice_index list i) ≢ Ordinary) ⊎ (IsTrue (pinned h (slice_index list i)) ⊎ Contains (take i list) (slice_index list i)))

-- and none is so at an earlier place
pub record IsFirstBad (h : Heap) (list : List ℕ) (i : ℕ) : Type 0 where
  pub within : i < length list
  pub bad : IsBadAt h list i
  pub before : (j : ℕ) → j < i → IsBadAt h list j → ⊥
