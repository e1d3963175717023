-- Bytes that are no image's text for their stale words alone, and whether these show.
use Rattle.std.specs.Prelude.{◌⊎◌, ℕ, List}
use Rattle.g1_words.specs.declared.limits.Limits.TheVariants.{Wide}
use Rattle.g1_words.specs.declared.fault.Fault.TheVariants as fault
use Rattle.g1_words.specs.declared.fault.Place.{Place}
use Rattle.g1_words.specs.Heap.{Heap}
use Rattle.g1_words.specs.Graph.{SameGraph}
use Rattle.g1_image.specs.Image.{Image, IsImage}
use Rattle.g1_image.specs.Faults.{FaultWithin}
use Rattle.g1_image.specs.Stale.{IsTextWithout}
use Rattle.g1_same.specs.Stale.{LeadsToStale}

-- the fault of the bytes is a word that references no object, and with null in all such words they are an image's
pub record IsStaleText (bytes : List ℕ) (h : Image) (roots slots : List (ℕ × ℕ)) : Type 0 where
  pub fault : (p : Place) × FaultWithin Wide bytes (fault.Reference p)
  pub text : IsTextWithout Wide bytes h roots slots
  pub image : IsImage h

-- a path leads to one of the stale words
abbrev pub ReachesStale : Heap → Heap → List (ℕ × ℕ) → List (ℕ × ℕ) → Type 0
ReachesStale g h roots slots = (p : List ℕ) × (x : ℕ) × (z : ℕ) × LeadsToStale g h roots slots p x z

-- the heaps show one graph, and no path leads to a stale word
abbrev pub HidesStale : Heap → Heap → List (ℕ × ℕ) → List (ℕ × ℕ) → Type 0
HidesStale g h roots slots = SameGraph g h × (ReachesStale g h roots slots → ⊥)

-- bytes have stale words and no other fault, and beside an image they show another graph or a path leads to a stale word
abbrev pub ShowsStale : Image → List ℕ → Type 0
ShowsStale g bytes =
    (h : Image) × (roots : List (ℕ × ℕ)) × (slots : List (ℕ × ℕ)) × IsStaleText bytes h roots slots
    × ((SameGraph g.heap h.heap → ⊥) ⊎ ReachesStale g.heap h.heap roots slots)
