-- What is at an address where no object starts.
use Rattle.std.specs.Prelude.{◌≡◌, ◌≢◌, ◌+◌, ◌-◌, ◌*◌, ◌<◌, ◌≤◌, ℕ, List, ◌++◌, Contains, codes, decimal}
use Rattle.g1_words.specs.Heap.{Heap, kind, start, end, region_of, object_at, objects}
use Rattle.g1_words.specs.declared.region.Kind.TheVariants as kinds
use Rattle.g1_report.specs.declared.location.Location.{Location}
use Rattle.g1_report.specs.declared.location.Location.TheVariants.{Inside, Free, AboveTop, Beyond}

-- THE TEXT of what is there
abbrev pub location_text : Location → List ℕ
location_text (Inside at) = codes "the object at " ++ (decimal at ++ codes " holds that word")
location_text (Free region) = codes "region " ++ (decimal region ++ codes " is free")
location_text (AboveTop region) = codes "it is above the top of region " ++ decimal region
location_text Beyond = codes "the heap ends before it"

-- the address lies in the region of this number
abbrev pub IsIn : Heap → ℕ → ℕ → Type 0
IsIn h a region = (region < h.geometry.n) × (region_of h a ≡ region)

-- WHAT IS THERE: a word of an object, a free region, a region whose used words end before, or no word of the heap
abbrev pub IsLocation : Heap → ℕ → Location → Type 0
IsLocation h a (Inside at) = Contains (objects h) (object_at h at) × (at ≤ a) × (a < at + (object_at h at).size)
IsLocation h a (Free region) = IsIn h a region × (kind h region ≡ kinds.Free)
IsLocation h a (AboveTop region) = IsIn h a region × (kind h region ≢ kinds.Free) × (end h region ≤ a)
IsLocation h a Beyond = h.geometry.n ≤ region_of h a

-- the humongous object at the start of the first region goes on in the second one
abbrev pub GoesOn : Heap → ℕ → ℕ → Type 0
GoesOn h first region =
    (kind h first ≡ kinds.HumongousFirst) × (first < region) × ((region - first) * h.geometry.w < (object_at h (start h first)).size)
