-- The exact set of one region, slot by slot: the cards so far, and the slots ahead.
use Rattle.std.specs.Prelude.{◌≡◌, ◌≤◌, ◌<◌, ◌⊎◌, ℕ, Bool, true, false, ◌||◌, List, slice_index_or, Contains}
use Rattle.std.specs.List.{list_any}
use Rattle.std.specs.List.Sorted.{IsStrictlyIncreasing}
use Rattle.g1_words.specs.Heap.{Heap, card_of}
use Rattle.g1_words.specs.Lists.{has}
use Rattle.g1_words.specs.References.{Ref, refs, refs_at}
use Rattle.g1_image.specs.Image.{Image, remembered_of}
use Rattle.g1_image.specs.Cards.{leads_into, exact}
use Rattle.g1_rem.specs.Slots.{all_slots}
use Rattle.g1_rem.specs.Starts.{card_count}

-- the slot leads into region r from another region
abbrev pub is_entry : Heap → ℕ → ℕ → Bool
is_entry h r p = list_any (leads_into h r) (refs_at h p)

-- region r remembers the card, or it is dirty
abbrev pub is_known : Image → ℕ → ℕ → Bool
is_known i r c = has (remembered_of i r) c || has i.log c

-- the marks show which cards region r remembers or are dirty
abbrev pub AreKnown : Image → ℕ → List Bool → Type 0
AreKnown i r marks = (c : ℕ) → c < card_count i.heap → slice_index_or marks c false ≡ is_known i r c

-- the cards rise, each is in region r's exact set and is known, and a slot that leads into the region lies on one of them or is still ahead
pub record LeadAhead (i : Image) (r : ℕ) (ahead cards : List ℕ) : Type 0 where
  pub rising : IsStrictlyIncreasing cards
  pub within : (x : ℕ) → Contains cards x → Contains (exact i.heap r) x
  pub known : (x : ℕ) → Contains cards x → is_known i r x ≡ true
  pub whole : (e : Ref) → Contains (refs i.heap) e → leads_into i.heap r e ≡ true → Contains cards (card_of i.heap e.slot) ⊎ Contains ahead e.slot
  pub order : IsStrictlyIncreasing ahead
  pub slots : (p : ℕ) → Contains ahead p → Contains (all_slots i.heap) p
  pub below : (x p : ℕ) → Contains cards x → Contains ahead p → x ≤ card_of i.heap p
