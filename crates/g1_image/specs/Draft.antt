-- A heap whose objects and references haven't been looked at.
use Rattle.std.specs.Prelude.{◌≡◌, ◌≤◌, ◌<◌, ℕ, ◌*◌, ◌^◌, List, length, All, IfSome, ◌≢◌}
use Rattle.g1_words.specs.Geometry.{IsWithinBounds, most_roots}
use Rattle.g1_words.specs.Heap.{Heap, region, start}
use Rattle.g1_words.specs.Valid.{IsShaped, IsFirst, Tiles}
use Rattle.g1_words.specs.declared.object.Object.{Object}
use Rattle.g1_words.specs.declared.region.Kind.TheVariants.{HumongousFirst}

-- what is known of a heap before its objects and references are looked at: its sizes, and that its lists have their lengths
pub record IsDraft (h : Heap) : Type 0 where
  pub limits : IsWithinBounds h.geometry.w h.geometry.k h.geometry.n
  pub word_count : length h.words ≡ h.geometry.n * h.geometry.w
  pub word_fits : All (λ x. x < 2 ^ 64) h.words
  pub region_count : length h.regions ≡ h.geometry.n
  pub root_count : length h.roots ≤ most_roots
  pub current_in : IfSome h.current (λ r. r < h.geometry.n)

-- objects of at most so many words fill the words from one address up to another
abbrev pub IsTiled : List ℕ → ℕ → ℕ → ℕ → Type 0
IsTiled words from to w = (os : List Object) × Tiles words from os to × All (λ o. 4 * o.size ≤ 3 * w) os

-- the last region before r where a humongous object starts, and the object's size; size 0 where there is none
pub record Latest (h : Heap) (r first size : ℕ) : Type 0 where
  pub none : size ≡ 0 → (q : ℕ) → q < r → (region h q).kind ≢ HumongousFirst
  pub before : 0 < size → first < r
  pub object : 0 < size → (refs : ℕ) × IsFirst h first (record { at = start h first; size = size; refs = refs })
  pub last : 0 < size → (q : ℕ) → first < q → q < r → (region h q).kind ≢ HumongousFirst

-- every region below r keeps its rules
abbrev pub ShapedBelow : Heap → ℕ → Type 0
ShapedBelow h r = (q : ℕ) → q < r → IsShaped h q
