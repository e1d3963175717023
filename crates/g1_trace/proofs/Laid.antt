-- What the commands need of a heap: the objects that are seen have words of their own, and a new one's place is unused.
use Rattle.std.specs.Prelude.{◌≡◌, ℕ, ◌+◌, ◌*◌, ◌<◌, ◌≤◌, length, Some, Contains}
use Rattle.g1_words.specs.declared.object.Object.{Object}
use Rattle.g1_words.specs.Geometry.{most_words}
use Rattle.g1_words.specs.Heap.{Heap, word, end, object_at, objects}
use Rattle.g1_trace.specs.Mutator.{heap_view, region_for}
use Rattle.g1_trace.specs.Views.{Seen}

-- the word q is one of the object's at a
abbrev pub CoversWord : Heap → ℕ → ℕ → Type 0
CoversWord h a q = (a ≤ q) × (q < a + (object_at h a).size)

-- each object that is seen has its words to itself
pub record IsLaid (h : Heap) : Type 0 where
  pub slots_fit : (a : ℕ) → Seen (heap_view h) a → (object_at h a).refs < (object_at h a).size
  pub inside : (a : ℕ) → Seen (heap_view h) a → a + (object_at h a).size ≤ length h.words
  pub apart : (a b q : ℕ) → Seen (heap_view h) a → Seen (heap_view h) b → CoversWord h a q → CoversWord h b q → a ≡ b

-- so many words from a on are 0, and none of them is an object's
pub record IsUnused (h : Heap) (a size : ℕ) : Type 0 where
  pub in_words : a + size ≤ length h.words
  pub zeros : (q : ℕ) → a ≤ q → q < a + size → word h q ≡ 0
  pub clear : (b q : ℕ) → Seen (heap_view h) b → CoversWord h b q → a ≤ q → q < a + size → ⊥
  pub apart : (o : Object) (q : ℕ) → Contains (objects h) o → o.at ≤ q → q < o.at + o.size → a ≤ q → q < a + size → ⊥

-- every place that the rule of allocation finds is unused
pub record IsReady (h : Heap) : Type 0 where
  pub laid : IsLaid h
  pub small : h.geometry.n * h.geometry.w ≤ most_words
  pub places : (size r : ℕ) → 0 < size → size ≤ h.geometry.n * h.geometry.w → region_for h size ≡ Some r → IsUnused h (end h r) size
