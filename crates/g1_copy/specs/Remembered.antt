-- The remembered sets after a pause, put together of lists of cards.
use Rattle.std.specs.Prelude.{◌≡◌, ◌<◌, ℕ, Bool, true, false, List, [], length, filter, slice_index_or, All, if◌then◌else◌}
use Rattle.std.specs.List.Sorted.{IsStrictlyIncreasing}
use Rattle.g1_words.specs.Heap.{Heap}
use Rattle.g1_image.specs.Image.{region_of_card}
use Rattle.g1_rem.specs.Merging.{IsMerged}
use Rattle.g1_copy.specs.declared.fates.Fate.{Fate}
use Rattle.g1_copy.specs.declared.fates.Fate.TheVariants.{Freed, Filled, Kept}
use Rattle.g1_copy.specs.Fates.{fate_at}

-- the region isn't freed
abbrev pub is_kept_fate : Fate → Bool
is_kept_fate Freed = false
is_kept_fate _ = true

-- the card lies in a region that isn't freed
abbrev pub stays : Heap → List Fate → ℕ → Bool
stays h fates c = is_kept_fate (fate_at fates (region_of_card h c))

-- the set of a region of this fate: none; the cards of outer slots and of copied slots; the refined ones that stay and those of copied slots
abbrev pub IsJoined : Heap → List Fate → Fate → List ℕ → List ℕ → List ℕ → List ℕ → Type 0
IsJoined h fates Freed refined outer inner cards = cards ≡ []
IsJoined h fates (Filled t) refined outer inner cards = IsMerged outer inner cards
IsJoined h fates Kept refined outer inner cards = IsMerged (filter (stays h fates) refined) inner cards

-- one region's list of cards
abbrev pub cards_at : List (List ℕ) → ℕ → List ℕ
cards_at lists r = slice_index_or lists r []

-- a rising list of each kind a region, the refined cards among the heap's
pub record AreSources (h : Heap) (fates : List Fate) (remembered outer inner : List (List ℕ)) : Type 0 where
  pub fates_count : length fates ≡ h.geometry.n
  pub remembered_count : length remembered ≡ h.geometry.n
  pub outer_count : length outer ≡ h.geometry.n
  pub inner_count : length inner ≡ h.geometry.n
  pub there : (r : ℕ) → r < h.geometry.n → All (λ c. region_of_card h c < h.geometry.n) (cards_at remembered r)
  pub remembered_rise : (r : ℕ) → r < h.geometry.n → IsStrictlyIncreasing (cards_at remembered r)
  pub outer_rise : (r : ℕ) → r < h.geometry.n → IsStrictlyIncreasing (cards_at outer r)
  pub inner_rise : (r : ℕ) → r < h.geometry.n → IsStrictlyIncreasing (cards_at inner r)

-- what is left of the set of a region of this fate: of a freed one nothing, of any other the cards that lie in no freed region
abbrev pub left : Heap → List Fate → Fate → List ℕ → List ℕ
left h fates fate cards = if is_kept_fate fate then filter (stays h fates) cards else []

-- what is left of each region's set
pub record AreLeft (h : Heap) (fates : List Fate) (old new : List (List ℕ)) : Type 0 where
  pub one_each : length new ≡ length old
  pub each : (r : ℕ) → r < length old → cards_at new r ≡ left h fates (fate_at fates r) (cards_at old r)

-- each region has its set
pub record AreJoined (h : Heap) (fates : List Fate) (remembered outer inner news : List (List ℕ)) : Type 0 where
  pub one_each : length news ≡ h.geometry.n
  pub each : (r : ℕ) → r < h.geometry.n → IsJoined h fates (fate_at fates r) (cards_at remembered r) (cards_at outer r) (cards_at inner r) (cards_at news r)
