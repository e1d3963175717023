-- The rules that a heap keeps. They speak of its objects as a relation: these objects stand end to end.
use Rattle.std.specs.Prelude.{◌≡◌, ◌≤◌, ◌<◌, ℕ, ◌+◌, ◌-◌, ◌*◌, ◌^◌, ◌⊎◌, List, [], ◌∷◌, Some, length, min, slice_index, All, Contains, IfSome, IsTrue}
use Rattle.g1_words.specs.Geometry.{IsWithinBounds, most_roots}
use Rattle.g1_words.specs.Heap.{Heap, region, start, end}
use Rattle.g1_words.specs.declared.object.Object.{Object}
use Rattle.g1_words.specs.declared.region.Kind.{Kind}
use Rattle.g1_words.specs.declared.region.Kind.TheVariants.{Free, Ordinary, HumongousFirst, Continuation}

-- An object stands at its address: the word there is its header, which tells its size in words,
-- the header included, and how many of the words after the header are references.
pub record IsObject (words : List ℕ) (o : Object) : Type 0 where
  pub header : slice_index words o.at ≡ o.size * 2 ^ 32 + o.refs
  pub refs_fit : o.refs < o.size
  pub size_fits : o.size < 2 ^ 32

-- these objects stand end to end, from one address up to another
abbrev pub Tiles : List ℕ → ℕ → List Object → ℕ → Type 0
Tiles words from [] to = from ≡ to
Tiles words from (o ∷ os) to = (o.at ≡ from) × IsObject words o × Tiles words (from + o.size) os to

-- the object takes more than three quarters of a region
abbrev pub IsHumongous : Heap → Object → Type 0
IsHumongous h o = 3 * h.geometry.w < 4 * o.size

-- the object at the start of the first region of a run
pub record IsFirst (h : Heap) (r : ℕ) (o : Object) : Type 0 where
  pub kind : (region h r).kind ≡ HumongousFirst
  pub at : o.at ≡ start h r
  pub object : IsObject h.words o

-- the objects that start in a region of this kind, by rising address
abbrev pub HoldsBy : Kind → Heap → ℕ → List Object → Type 0
HoldsBy Free h r os = os ≡ []
HoldsBy Ordinary h r os = Tiles h.words (start h r) os (end h r)
HoldsBy HumongousFirst h r os = (o : Object) × IsFirst h r o × (os ≡ o ∷ [])
HoldsBy Continuation h r os = os ≡ []

-- the objects that start in a region, by rising address
abbrev pub Holds : Heap → ℕ → List Object → Type 0
Holds h r os = HoldsBy (region h r).kind h r os

-- the object is one of the heap's
pub record HasObject (h : Heap) (o : Object) : Type 0 where
  pub place : ℕ
  pub others : List Object
  pub in_heap : place < h.geometry.n
  pub holds : Holds h place others
  pub one_of : Contains others o

-- the word is null or names an object
abbrev pub IsReference : Heap → ℕ → Type 0
IsReference h x = (x ≡ 0) ⊎ ((o : Object) × HasObject h o × (x ≡ o.at + 1))

-- the address is that of a reference slot of the object
abbrev pub IsSlotOf : Object → ℕ → Type 0
IsSlotOf o p = (o.at < p) × (p ≤ o.at + o.refs)

-- The run of a humongous object from region r on: a region for each started width of its size, all of
-- them there, and all but the first continuations.
abbrev pub IsWholeRun : Heap → ℕ → ℕ → Type 0
IsWholeRun h r size = (i : ℕ) → 0 < i → i * h.geometry.w < size →
    (r + i < h.geometry.n) × ((region h (r + i)).kind ≡ Continuation)

-- the rules for a region of this kind
abbrev pub IsShapedBy : Kind → Heap → ℕ → Type 0
IsShapedBy Free h r = (region h r).top ≡ 0
IsShapedBy Ordinary h r =
    (0 < (region h r).top) × ((region h r).top ≤ h.geometry.w)
    × (os : List Object) × Holds h r os × All (λ o. 4 * o.size ≤ 3 * h.geometry.w) os
IsShapedBy HumongousFirst h r =
    (o : Object) × IsFirst h r o × IsHumongous h o × ((region h r).top ≡ min h.geometry.w o.size) × IsWholeRun h r o.size
IsShapedBy Continuation h r =
    (first : ℕ) × (o : Object) × IsFirst h first o × (first < r) × ((r - first) * h.geometry.w < o.size)
    × ((region h r).top ≡ min h.geometry.w (o.size - (r - first) * h.geometry.w))

-- the rules for a region, of its kind and as the current one
pub record IsShaped (h : Heap) (r : ℕ) : Type 0 where
  pub by_kind : IsShapedBy (region h r).kind h r
  pub current : h.current ≡ Some r → (region h r).kind ≡ Ordinary

-- every region keeps its rules
abbrev pub AllShaped : Heap → Type 0
AllShaped h = (r : ℕ) → r < h.geometry.n → IsShaped h r

-- only an ordinary region may be pinned
abbrev pub MayBePinned : Heap → ℕ → Type 0
MayBePinned h r = IsTrue (region h r).pinned → (region h r).kind ≡ Ordinary

-- the rules of a heap
pub record IsValid (h : Heap) : Type 0 where
  pub limits : IsWithinBounds h.geometry.w h.geometry.k h.geometry.n
  pub word_count : length h.words ≡ h.geometry.n * h.geometry.w
  pub word_fits : All (λ x. x < 2 ^ 64) h.words
  pub region_count : length h.regions ≡ h.geometry.n
  pub root_count : length h.roots ≤ most_roots
  pub shaped : AllShaped h
  pub pins : (r : ℕ) → r < h.geometry.n → MayBePinned h r
  pub zero_above : (r i : ℕ) → r < h.geometry.n → (region h r).top ≤ i → i < h.geometry.w → slice_index h.words (start h r + i) ≡ 0
  pub roots : All (IsReference h) h.roots
  pub slots : (o : Object) (p : ℕ) → HasObject h o → IsSlotOf o p → IsReference h (slice_index h.words p)
  pub current_in : IfSome h.current (λ r. r < h.geometry.n)
