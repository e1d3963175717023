-- Marks at the addresses where objects start.
use Rattle.std.specs.Prelude.{◌≡◌, ◌≤◌, ◌<◌, ℕ, ◌⊎◌, ◌+◌, ◌*◌, List, Bool, false, slice_index_or, IsTrue, length}
use Rattle.g1_words.specs.Heap.{Heap, region, start, end}
use Rattle.g1_words.specs.Valid.{HasObject}
use Rattle.g1_words.specs.Walk.{Reaches}
use Rattle.g1_words.specs.declared.object.Object.{Object}
use Rattle.g1_words.specs.declared.region.Kind.{Kind}
use Rattle.g1_words.specs.declared.region.Kind.TheVariants.{Free, Ordinary, HumongousFirst, Continuation}

-- an object starts at the address, of those that fill the words between two addresses
abbrev pub InRow : List ℕ → ℕ → ℕ → ℕ → Type 0
InRow words from to a = Reaches words from a × (a < to)

-- an object starts at the address in a region of this kind
abbrev pub StartsIn : Kind → Heap → ℕ → ℕ → Type 0
StartsIn Free h r a = ⊥
StartsIn Ordinary h r a = InRow h.words (start h r) (end h r) a
StartsIn HumongousFirst h r a = a ≡ start h r
StartsIn Continuation h r a = ⊥

-- an object starts at the address in one of the regions from one on and below another
abbrev pub StartsBetween : Heap → ℕ → ℕ → ℕ → Type 0
StartsBetween h from to a = (r : ℕ) × (from ≤ r) × (r < to) × StartsIn (region h r).kind h r a

-- whether the address is marked; addresses past the last one are not
abbrev pub mark : List Bool → ℕ → Bool
mark marks a = slice_index_or marks a false

-- these marks were there, and those that P tells
pub record Marked (P : ℕ → Type 0) (old new : List Bool) : Type 0 where
  pub sound : (a : ℕ) → IsTrue (mark new a) → IsTrue (mark old a) ⊎ P a
  pub stay : (a : ℕ) → IsTrue (mark old a) → IsTrue (mark new a)
  pub whole : (a : ℕ) → P a → IsTrue (mark new a)

-- the marks are there that P tells, and no others
pub record Marks (P : ℕ → Type 0) (marks : List Bool) : Type 0 where
  pub sound : (a : ℕ) → IsTrue (mark marks a) → P a
  pub whole : (a : ℕ) → P a → IsTrue (mark marks a)

-- an object of the heap starts at the address
abbrev pub StartsAt : Heap → ℕ → Type 0
StartsAt h a = (o : Object) × HasObject h o × (o.at ≡ a)

-- one mark for each word, set exactly where an object of the heap starts
pub record StartsAre (h : Heap) (marks : List Bool) : Type 0 where
  pub each : Marks (StartsAt h) marks
  pub count : length marks ≡ h.geometry.n * h.geometry.w

-- one mark for each word of the regions from one on and below another, set exactly where an object starts
pub record StartsOf (h : Heap) (from to : ℕ) (marks : List Bool) : Type 0 where
  pub each : Marks (λ k. StartsBetween h from to (start h from + k)) marks
  pub count : start h from + length marks ≡ start h to
