-- For each region the dirty cards that hold a slot of another region which names an object in it.
use Rattle.std.specs.Prelude.{◌≡◌, ◌<◌, ℕ, Bool, ◌&&◌, List, [], ◌∷◌, ◌++◌, length, filter, slice_index_or, if◌then◌else◌}
use Rattle.std.specs.List.{list_any}
use Rattle.std.specs.List.Sorted.{IsStrictlyIncreasing}
use Rattle.g1_words.specs.Lists.{has}
use Rattle.g1_words.specs.Heap.{Heap}
use Rattle.g1_image.specs.Image.{Image}
use Rattle.g1_image.specs.Cards.{is_exact}
use Rattle.g1_rem.specs.Ahead.{is_entry}

-- one of the slots leads into the region from another one
abbrev pub enters : Heap → ℕ → List ℕ → Bool
enters h r ps = list_any (is_entry h r) ps

-- the list, with the card at its end where it is to be there
abbrev pub with_card : List ℕ → ℕ → Bool → List ℕ
with_card before card b = if b then before ++ card ∷ [] else before

-- the card was added to the lists of the regions that the slots lead into
pub record IsGrown (h : Heap) (card : ℕ) (ps : List ℕ) (old new : List (List ℕ)) : Type 0 where
  pub one_each : length new ≡ length old
  pub each : (r : ℕ) → r < length old → slice_index_or new r [] ≡ with_card (slice_index_or old r []) card (enters h r ps)

-- each region's list has those of the cards that are in its exact set
pub record AreEntering (h : Heap) (cards : List ℕ) (lists : List (List ℕ)) : Type 0 where
  pub one_each : length lists ≡ h.geometry.n
  pub each : (r : ℕ) → r < h.geometry.n → slice_index_or lists r [] ≡ filter (is_exact h r) cards

-- these are the dirty cards that are in the region's exact set, rising
pub record IsRefining (i : Image) (r : ℕ) (cards : List ℕ) : Type 0 where
  pub rising : IsStrictlyIncreasing cards
  pub members : (c : ℕ) → has cards c ≡ (has i.log c && is_exact i.heap r c)

-- the same for every region
pub record AreRefining (i : Image) (lists : List (List ℕ)) : Type 0 where
  pub one_each : length lists ≡ i.heap.geometry.n
  pub each : (r : ℕ) → r < i.heap.geometry.n → IsRefining i r (slice_index_or lists r [])
