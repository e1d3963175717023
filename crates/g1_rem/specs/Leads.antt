-- Which other region a slot leads into.
use Rattle.std.specs.Prelude.{◌≡◌, ◌≢◌, ◌<◌, ℕ, suc, Option, Some, None}
use Rattle.g1_words.specs.Heap.{Heap, word, region_of}

-- the answer tells the region, other than its own, in which a slot names an object
abbrev pub IsLedInto : Heap → ℕ → Option ℕ → Type 0
IsLedInto h p None = (a : ℕ) → word h p ≡ suc a → region_of h p ≡ region_of h a
IsLedInto h p (Some r) = (a : ℕ) × (word h p ≡ suc a) × (region_of h a ≡ r) × (region_of h p ≢ r) × (r < h.geometry.n)
