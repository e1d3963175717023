-- Slots of kept regions that name survivors, with their new words.
use Rattle.std.specs.Prelude.{◌≡◌, ◌≤◌, ◌<◌, ℕ, suc, ◌+◌, ◌*◌, not, ◌&&◌, List, length, map, filter, flat_map, slice_index, slice_index_or}
use Rattle.g1_words.specs.Copy.{renamed}
use Rattle.g1_words.specs.Heap.{Heap, card_of}
use Rattle.g1_words.specs.Lists.{has}
use Rattle.g1_words.specs.References.{Ref, refs, refs_at}
use Rattle.g1_words.specs.Survivors.{in_set}
use Rattle.g1_words.specs.Layout.{forward}
use Rattle.g1_rem.specs.Slots.{slots_on}

-- a reference's slot with the slot's word after its target moved
abbrev pub patch : Heap → List ℕ → Ref → ℕ × ℕ
patch h l e = (e.slot, suc (forward h l e.target))

-- the slots on these cards that name a survivor, by address
abbrev pub patches_on : Heap → List ℕ → List ℕ → List (ℕ × ℕ)
patches_on h l cards = map (patch h l) (filter (λ e. has cards (card_of h e.slot) && has l e.target) (refs h))

-- the slots outside the set that name a survivor, by address
abbrev pub all_patches : Heap → List ℕ → List ℕ → List (ℕ × ℕ)
all_patches h set l = map (patch h l) (filter (λ e. not (in_set h set e.slot) && has l e.target) (refs h))

-- these are the slots outside the set that name a survivor, by address, each with its word: renamed, the words are those of the patches
abbrev pub AreLeads : Heap → List ℕ → List ℕ → List (ℕ × ℕ) → Type 0
AreLeads h set l xs = map (λ x. (x.0, renamed (forward h l) x.1)) xs ≡ all_patches h set l

-- the patch of one slot, if it names a survivor
abbrev pub patch_at : Heap → List ℕ → ℕ → List (ℕ × ℕ)
patch_at h l p = map (patch h l) (filter (λ e. has l e.target) (refs_at h p))

-- the patches of slots, in the slots' order
abbrev pub patches_at : Heap → List ℕ → List ℕ → List (ℕ × ℕ)
patches_at h l ps = flat_map (patch_at h l) ps

-- the patches of the slots on these cards, card by card
abbrev pub patches_by_card : Heap → List ℕ → List ℕ → List (ℕ × ℕ)
patches_by_card h l cards = flat_map (λ c. patches_at h l (slots_on h c)) cards

-- so many of the patches, which are by address, lie before an address
pub record AreBefore (patches : List (ℕ × ℕ)) (end count : ℕ) : Type 0 where
  pub within : count ≤ length patches
  pub before : (k : ℕ) → k < count → (slice_index_or patches k (0, 0)).0 < end
  pub behind : (k : ℕ) → count ≤ k → k < length patches → end ≤ (slice_index_or patches k (0, 0)).0

-- for each of n regions how many patches lie before it, and at last all
pub record AreFirsts (w n : ℕ) (patches : List (ℕ × ℕ)) (firsts : List ℕ) : Type 0 where
  pub one_each : length firsts ≡ n + 1
  pub each : (r : ℕ) → r < n + 1 → AreBefore patches (r * w) (slice_index firsts r)
