-- The laws that public functions of this crate prove.
use Rattle.std.specs.Prelude.{◌≡◌, ◌≢◌, ◌↔◌, ◌⊎◌, Bool, List, ℕ, ◌<◌, Contains, IsFalse}
use Rattle.std.specs.List.Sorted.{IsStrictlyIncreasing}
use Rattle.g1_words.specs.Heap.{Heap, pinned, region_of, card_of}
use Rattle.g1_words.specs.Valid.{IsValid}
use Rattle.g1_words.specs.References.{Ref, refs}
use Rattle.g1_image.specs.Image.{Image, IsImage, remembered_of, region_of_card, IsTextWithin, IsTextIn}
use Rattle.g1_image.specs.Cards.{cards_where, exact, refined, Covered, uncovered}
use Rattle.g1_image.specs.Text.{File, Version, file_text}
use Rattle.g1_image.specs.declared.cursor.Version.TheVariants.{One, Two}
use Rattle.g1_image.specs.Reading.{IsBytes}
use Rattle.g1_image.specs.Faults.{FileFits, FaultWithin}
use Rattle.g1_words.specs.declared.fault.Fault.{Fault}
use Rattle.g1_words.specs.declared.limits.Limits.{Limits}

-- an address lies in the region of its card
abbrev pub CardsInRegions : Type 0
CardsInRegions = (h : Heap) (p : ℕ) → IsValid h → region_of_card h (card_of h p) ≡ region_of h p

-- the cards that pass a test stand in rising order: so do the exact and the refined sets
abbrev pub CardsRise : Type 0
CardsRise = (h : Heap) (test : ℕ → Bool) → IsStrictlyIncreasing (cards_where h test)

-- the exact set of a region has the cards of those references that lead into it from outside
abbrev pub ExactRemembered : Type 0
ExactRemembered = (h : Heap) (r c : ℕ) → IsValid h → Contains (exact h r) c
    ↔ ((e : Ref) × Contains (refs h) e × (region_of h e.target ≡ r) × (region_of h e.slot ≢ r) × (card_of h e.slot ≡ c))

-- the refined set has the remembered cards and those dirty ones that are exact
abbrev pub RefinedRemembered : Type 0
RefinedRemembered = (i : Image) (r c : ℕ) → IsImage i → r < i.heap.geometry.n → Contains (refined i r) c
    ↔ (Contains (remembered_of i r) c ⊎ (Contains i.log c × Contains (exact i.heap r) c))

-- the reference stays in its region, or its slot's card is remembered or dirty
abbrev pub HasCover : Image → Ref → Type 0
HasCover i e =
    (region_of i.heap e.slot ≡ region_of i.heap e.target)
    ⊎ (Contains (remembered_of i (region_of i.heap e.target)) (card_of i.heap e.slot) ⊎ Contains i.log (card_of i.heap e.slot))

-- an image is covered where each reference is
abbrev pub CoveredImage : Type 0
CoveredImage = (i : Image) → Covered i ↔ ((e : Ref) → Contains (refs i.heap) e → HasCover i e)

-- the uncovered slots are those of references without cover
abbrev pub UncoveredSlots : Type 0
UncoveredSlots = (i : Image) (p : ℕ) → Contains (uncovered i) p ↔ ((e : Ref) × Contains (refs i.heap) e × (e.slot ≡ p) × (HasCover i e → ⊥))

-- the uncovered slots stand in rising order: the first is the lowest
abbrev pub UncoveredRise : Type 0
UncoveredRise = (i : Image) → IsValid i.heap → IsStrictlyIncreasing (uncovered i)

-- within any limits bytes are the text of one file at most
abbrev pub OneFile : Type 0
OneFile = (limits : Limits) (bytes : List ℕ) (f g : File) → FileFits limits f → FileFits limits g → bytes ≡ file_text f → bytes ≡ file_text g → f ≡ g

-- within any limits bytes are the text of one image at most
abbrev pub OneImage : Type 0
OneImage = (limits : Limits) (bytes : List ℕ) (i j : Image) → IsTextWithin limits bytes i → IsTextWithin limits bytes j → i ≡ j

-- an image has one text of each version at most
abbrev pub OneText : Type 0
OneText = (v : Version) (i : Image) (a b : List ℕ) → IsTextIn v a i → IsTextIn v b i → a ≡ b

-- an image has a text of version 2, and one of version 1 exactly where no region is pinned
abbrev pub TextsExist : Type 0
TextsExist = (i : Image) → IsImage i →
    ((a : List ℕ) × IsTextIn Two a i) × (((a : List ℕ) × IsTextIn One a i) ↔ ((r : ℕ) → r < i.heap.geometry.n → IsFalse (pinned i.heap r)))

-- within any limits bytes have one fault at most
abbrev pub OneFault : Type 0
OneFault = (limits : Limits) (bytes : List ℕ) (e d : Fault) → FaultWithin limits bytes e → FaultWithin limits bytes d → e ≡ d

-- within any limits an image's text has no fault
abbrev pub NoFaultOfText : Type 0
NoFaultOfText = (limits : Limits) (bytes : List ℕ) (i : Image) (e : Fault) → IsTextWithin limits bytes i → FaultWithin limits bytes e → ⊥

-- within any limits bytes are an image's text or have a fault
abbrev pub AlwaysOne : Type 0
AlwaysOne = (limits : Limits) (bytes : List ℕ) → IsBytes bytes → ((i : Image) × IsTextWithin limits bytes i) ⊎ ((e : Fault) × FaultWithin limits bytes e)
