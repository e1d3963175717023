-- The number of each object of a window, and what any numbering has to be.
use Rattle.std.specs.Prelude.{◌≡◌, ◌<◌, ◌≤◌, ℕ, Bool, true, false, List, [], ◌∷◌, ◌+◌, ◌-◌, ◌*◌, map, set, length, slice_index_or, Contains}
use Rattle.g1_words.specs.Heap.{Heap, object_at, objects, objects_in, start}
use Rattle.g1_words.specs.Marks.{marks_of}
use Rattle.g1_words.specs.Survivors.{in_set}
use Rattle.g1_frontier.specs.Window.{place}

-- an object of the window begins at the address
abbrev pub BeginsIn : Heap → List ℕ → ℕ → Type 0
BeginsIn h window a = (in_set h window a ≡ true) × Contains (objects h) (object_at h a)

-- WHAT ANY NUMBERING HAS TO BE: each object of the window has a number below the count, and no two have the same
pub record IsNumbering (h : Heap) (window : List ℕ) (count : ℕ) (number : ℕ → ℕ) : Type 0 where
  pub below : (a : ℕ) → BeginsIn h window a → number a < count
  pub apart : (a b : ℕ) → BeginsIn h window a → BeginsIn h window b → number b ≡ number a → b ≡ a

-- the window's words at which objects begin are marked, and no others
pub record AreStarts (h : Heap) (window : List ℕ) (starts : List Bool) : Type 0 where
  pub words : length window * h.geometry.w ≤ length starts
  pub each : (a : ℕ) → BeginsIn h window a → slice_index_or starts (place h window a) false ≡ true
  pub only : (p : ℕ) → slice_index_or starts p false ≡ true → (a : ℕ) × BeginsIn h window a × (place h window a ≡ p)

-- the bits mark the window's words at which objects begin, with no more words of bits than they need
pub record AreBits (h : Heap) (window : List ℕ) (bits : List ℕ) : Type 0 where
  pub starts : AreStarts h window (marks_of (64 * length bits) bits)
  pub few : 64 * length bits < length window * h.geometry.w + 64

-- the marks, and those at some words beside them
abbrev pub and_marked : List Bool → List ℕ → List Bool
and_marked starts [] = starts
and_marked starts (p ∷ ps) = and_marked (set starts p true) ps

-- where the objects of a region begin among words that the region starts at one of
abbrev pub places_from : Heap → ℕ → ℕ → List ℕ
places_from h first r = map (λ o. first + (o.at - start h r)) (objects_in h r)
