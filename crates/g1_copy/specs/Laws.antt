-- The laws that public functions of this crate prove.
use Rattle.std.specs.Prelude.{◌≡◌, ◌≤◌, ◌<◌, ◌⊎◌, ◌↔◌, ◌+◌, ◌++◌, ◌*◌, ◌&&◌, ◌||◌, ℕ, false, List, length, map, slice_index, All, Contains, IsTrue}
use Rattle.std.specs.List.Sorted.{IsStrictlyIncreasing}
use Rattle.g1_words.specs.Heap.{Heap, regions}
use Rattle.g1_words.specs.Survivors.{AllOrdinary, Survivors}
use Rattle.g1_words.specs.Layout.{HasRoom, need, to_space}
use Rattle.g1_layout.specs.Plan.{Plan}
use Rattle.g1_image.specs.Image.{Image, IsImage, card_in}
use Rattle.g1_image.specs.Cards.{Covered, is_exact, refined}
use Rattle.g1_after.specs.Made.{heap_moved, image_paused}
use Rattle.g1_after.specs.Unnamed.{unnamed_regions}
use Rattle.g1_words.specs.Lists.{has}
use Rattle.g1_copy.specs.Links.{is_linked, copied_slots}
use Rattle.g1_words.specs.Valid.{IsValid}
use Rattle.g1_rem.specs.Starts.{card_count}
use Rattle.g1_rem.specs.EntryCards.{cards_into}
use Rattle.g1_copy.specs.Gathered.{IsGatheredAt, size_of, start_of, to_space_words}
use Rattle.g1_copy.specs.Plans.{IsPlanOf}
use Rattle.g1_copy.specs.Patches.{all_patches, patches_on}
use Rattle.g1_copy.specs.Slices.{words_after}

-- the cards that lead into a set are those of its regions' refined sets, without those that lie in the set
abbrev pub CardsLeadIn : Type 0
CardsLeadIn = (i : Image) (set : List ℕ) → IsImage i → AllOrdinary i.heap set → (c : ℕ) → Contains (cards_into i.heap (map (refined i) (regions i.heap)) set) c
    ↔ (((r : ℕ) × Contains set r × Contains (refined i r) c) × (card_in i.heap set c ≡ false))

-- they rise, each is a card of the heap, and none lies in a region of the set
abbrev pub CardsStandOutside : Type 0
CardsStandOutside = (h : Heap) (remembered : List (List ℕ)) (set : List ℕ)
    → IsStrictlyIncreasing (cards_into h remembered set) × All (λ c. c < card_count h) (cards_into h remembered set) × All (λ c. card_in h set c ≡ false) (cards_into h remembered set)

-- the slots on the cards of the refined sets that name a survivor are all slots outside the set that do
abbrev pub RefinedFindPatches : Type 0
RefinedFindPatches = (i : Image) (set l : List ℕ) → IsImage i → Covered i → IsStrictlyIncreasing set → AllOrdinary i.heap set → Survivors i.heap set l
    → patches_on i.heap l (cards_into i.heap (map (refined i) (regions i.heap)) set) ≡ all_patches i.heap set l

-- the words of to-space gathered, the patches and the cleared regions make the words of the heap after
abbrev pub WrittenInPlace : Type 0
WrittenInPlace = (i : Image) (set l : List ℕ) → IsValid i.heap → HasRoom i.heap set l
    → words_after i.heap.geometry.w (set ++ unnamed_regions (heap_moved i.heap set l)) (to_space i.heap l) (to_space_words i.heap l) (all_patches i.heap set l) i.heap.words
    ≡ (image_paused i set l).heap.words

-- the cards that are exact for a region of to-space once the survivors have moved are those of the patches and the copied slots that lead into it
abbrev pub CardsOfToSpace : Type 0
CardsOfToSpace = (h : Heap) (set l : List ℕ) → IsValid h → HasRoom h set l → (r c : ℕ) → IsTrue (has (to_space h l) r)
    → is_exact (heap_moved h set l) r c ≡ (is_linked h (all_patches h set l) r c || is_linked h (copied_slots h l) r c)

-- the to-space cards that are exact for a region once the survivors have moved are those of the copied slots that lead into it
abbrev pub CardsInToSpace : Type 0
CardsInToSpace = (h : Heap) (set l : List ℕ) → IsValid h → HasRoom h set l → (r c : ℕ)
    → (card_in h (to_space h l) c && is_exact (heap_moved h set l) r c) ≡ is_linked h (copied_slots h l) r c

-- of a plan of any objects of a set: each survivor's words stand at its place
abbrev pub GatheredAtPlaces : Type 0
GatheredAtPlaces = (h : Heap) (p : Plan) → IsValid h → IsPlanOf h p → (i : ℕ) → i < length p.survivors → (t : ℕ) × IsGatheredAt h p i t

-- and a word of to-space that no survivor takes is 0
abbrev pub GatheredElsewhere : Type 0
GatheredElsewhere = (h : Heap) (p : Plan) → IsValid h → IsPlanOf h p → (t m : ℕ) → t < need h p.survivors → m < h.geometry.w
    → ((i : ℕ) → i < length p.survivors → (start_of h p t + m < slice_index p.places i) ⊎ (slice_index p.places i + size_of h p i ≤ start_of h p t + m))
    → slice_index (to_space_words h p.survivors) (t * h.geometry.w + m) ≡ 0
