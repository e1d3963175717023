-- Which humongous objects nothing names, by the fates of the regions and the remembered sets after the survivors moved.
use Rattle.std.specs.Prelude.{ℕ, Bool, true, false, not, ◌&&◌, ◌||◌, List, ◌==◌}
use Rattle.std.specs.Int.{div_ceil}
use Rattle.std.specs.List.{list_any, range_with_len}
use Rattle.g1_words.specs.Heap.{Heap, is_first, kind, object_at, region_of, start}
use Rattle.g1_words.specs.References.{root_targets}
use Rattle.g1_image.specs.Cards.{is_exact}
use Rattle.g1_image.specs.Image.{region_of_card}
use Rattle.g1_after.specs.Unnamed.{lies_in}
use Rattle.g1_copy.specs.declared.fates.Fate.{Fate}
use Rattle.g1_copy.specs.declared.fates.Fate.TheVariants.{Filled}
use Rattle.g1_copy.specs.Fates.{fate_at}
use Rattle.g1_copy.specs.Remembered.{cards_at}

-- a heap, and what a pause does with each region
pub record Naming : Type 0 where
  pub heap : Heap
  pub fates : List Fate

-- a run of survivors fills the region
abbrev pub is_filled_fate : Fate → Bool
is_filled_fate (Filled t) = true
is_filled_fate _ = false

-- a root names an object in the region
abbrev pub is_rooted : Heap → ℕ → Bool
is_rooted h r = list_any (λ a. region_of h a == r) (root_targets h)

-- a slot on this card of region r's remembered set, outside the regions of the object that begins in r, names that object: on one of to-space always
abbrev pub is_naming : Heap → List Fate → ℕ → ℕ → Bool
is_naming h fates r c =
    is_filled_fate (fate_at fates (region_of_card h c)) || (not (lies_in h (region_of_card h c) (object_at h (start h r))) && is_exact h r c)

-- a humongous object stands in the region, and no root names it and none of these cards
abbrev pub is_unnamed : Heap → List Fate → List (List ℕ) → ℕ → Bool
is_unnamed h fates remembered r = is_first (kind h r) && not (is_rooted h r || list_any (is_naming h fates r) (cards_at remembered r))

-- the regions of a humongous object, from its first
abbrev pub humongous_regions : Heap → ℕ → List ℕ
humongous_regions h r = range_with_len r (div_ceil (object_at h (start h r)).size h.geometry.w)
