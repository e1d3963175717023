-- The window: the regions whose objects are searched, and the cards that lead into it.
use Rattle.std.specs.Prelude.{◌≡◌, ◌<◌, ℕ, ◌+◌, ◌*◌, ◌/◌, ◌%◌, true, false, cond, eqb, List, [], ◌∷◌, Contains, slice_index_or}
use Rattle.std.specs.List.{All}
use Rattle.std.specs.List.Sorted.{IsStrictlyIncreasing}
use Rattle.g1_words.specs.Heap.{Heap, card_of}
use Rattle.g1_words.specs.Lists.{has}
use Rattle.g1_words.specs.References.{Ref, refs}
use Rattle.g1_words.specs.Survivors.{in_set}
use Rattle.g1_image.specs.Image.{card_in}
use Rattle.g1_rem.specs.Starts.{card_count}

-- the numbers rise, each below a bound
pub record AreRising (bound : ℕ) (xs : List ℕ) : Type 0 where
  pub rise : IsStrictlyIncreasing xs
  pub below : All (λ x. x < bound) xs

-- the numbers are those of regions of the heap, rising
abbrev pub AreRegions : Heap → List ℕ → Type 0
AreRegions h window = AreRising h.geometry.n window

-- the numbers are those of cards of the heap, rising
abbrev pub AreCards : Heap → List ℕ → Type 0
AreCards h cards = AreRising (card_count h) cards

-- no card lies in a region of the window
abbrev pub AreOutside : Heap → List ℕ → List ℕ → Type 0
AreOutside h window cards = (c : ℕ) → Contains cards c → card_in h window c ≡ false

-- every slot outside the window that references an object in it lies on one of the cards
abbrev pub LeadIn : Heap → List ℕ → List ℕ → Type 0
LeadIn h window cards = (e : Ref) → Contains (refs h) e → in_set h window e.target ≡ true → in_set h window e.slot ≡ false → Contains cards (card_of h e.slot)

-- no slot outside the window references an object in it
abbrev pub IsClosed : Heap → List ℕ → Type 0
IsClosed h window = LeadIn h window []

-- where a region stands in the window
abbrev pub position : List ℕ → ℕ → ℕ
position [] r = 0
position (x ∷ xs) r = cond (eqb x r) 0 (position xs r + 1)

-- by region number, one more than where the region stands in the window, or 0
abbrev pub AreWindowPositions : List ℕ → List ℕ → Type 0
AreWindowPositions window positions = (r : ℕ) → slice_index_or positions r 0 ≡ cond (has window r) (position window r + 1) 0

-- where an address stands among the words of the window, region by region
abbrev pub place : Heap → List ℕ → ℕ → ℕ
place h window a = position window (a / h.geometry.w) * h.geometry.w + a % h.geometry.w
