-- The laws that public functions of this crate prove.
use Rattle.std.specs.Prelude.{◌≡◌, ◌≤◌, ◌<◌, ℕ, List, ◌+◌, ◌%◌, ◌==◌, length, map, filter, flat_map, zip, slice_range, AllPairs, Contains}
use Rattle.std.specs.List.Sorted.{IsStrictlyIncreasing}
use Rattle.g1_words.specs.Heap.{Heap, object_at, region_of}
use Rattle.g1_words.specs.Valid.{IsValid}
use Rattle.g1_words.specs.Survivors.{AllOrdinary, Survivors}
use Rattle.g1_words.specs.Layout.{need, free_regions, sizes_of, places, forward, to_space}
use Rattle.g1_layout.specs.Placed.{CanPlace}
use Rattle.g1_layout.specs.Plan.{run_at, runs}
use Rattle.g1_layout.specs.declared.plan.Run.{Run}

-- the survivors of a rising set of ordinary regions can be placed
abbrev pub SurvivorsPlaceable : Type 0
SurvivorsPlaceable = (h : Heap) (set l : List ℕ) → IsValid h → IsStrictlyIncreasing set → AllOrdinary h set → Survivors h set l → CanPlace h set l

-- each survivor goes into a region of to-space, and ends within it
abbrev pub WithinRegions : Type 0
WithinRegions = (h : Heap) (set l : List ℕ) → IsValid h → CanPlace h set l → need h l ≤ length (free_regions h)
    → (a : ℕ) → Contains l a → Contains (to_space h l) (region_of h (forward h l a)) × (forward h l a % h.geometry.w + (object_at h a).size ≤ h.geometry.w)

-- each survivor ends before the next one's place
abbrev pub PlacesRise : Type 0
PlacesRise = (h : Heap) (set l : List ℕ) → IsValid h → CanPlace h set l → need h l ≤ length (free_regions h) → AllPairs (λ x y. x.0 + x.1 ≤ y.0) (zip (places h l) (sizes_of h l))

-- the survivors of a run, as the list has them
abbrev pub stretch : List ℕ → Run → List ℕ
stretch l u = slice_range l u.from u.to

-- there is a run for each region of to-space, in their order
abbrev pub RunRegions : Type 0
RunRegions = (h : Heap) (l : List ℕ) → need h l ≤ length (free_regions h) → map (λ u. u.region) (runs h l) ≡ to_space h l

-- a run has the survivors that go into its region
abbrev pub RunSurvivors : Type 0
RunSurvivors = (h : Heap) (set l : List ℕ) → IsValid h → CanPlace h set l → need h l ≤ length (free_regions h)
    → (t : ℕ) → t < need h l → stretch l (run_at h l t) ≡ filter (λ a. region_of h (forward h l a) == (run_at h l t).region) l

-- the runs have all survivors, in their order
abbrev pub RunsInOrder : Type 0
RunsInOrder = (h : Heap) (set l : List ℕ) → IsValid h → CanPlace h set l → need h l ≤ length (free_regions h) → flat_map (stretch l) (runs h l) ≡ l
