-- What stands where the path to a difference ends.
use Rattle.std.specs.Prelude.{◌≡◌, ◌<◌, ℕ, zero, suc, ◌+◌, ◌∷◌, Contains}
use Rattle.g1_words.specs.Heap.{Heap, word, object_at, objects}
use Rattle.g1_same.specs.declared.difference.How.{How}
use Rattle.g1_same.specs.declared.difference.How.TheVariants.{Data}
use Rattle.g1_same.specs.declared.difference.Difference.{Difference}
use Rattle.g1_same.specs.declared.difference.Difference.TheVariants.{Roots, At}
use Rattle.g1_same.specs.declared.ending.Ends.{Ends}
use Rattle.g1_same.specs.declared.walk.What.{What}
use Rattle.g1_same.specs.declared.walk.What.TheVariants as what
use Rattle.g1_same.specs.Path.{Together}

-- the data word of this number of the object that a reference word names
abbrev pub data_word : Heap → ℕ → ℕ → ℕ
data_word h zero k = 0
data_word h (suc a) k = word h (a + 1 + (object_at h a).refs + k)

-- the reference word names an object that has a data word of this number
pub record HasDataWord (h : Heap) (x k : ℕ) : Type 0 where
  pub address : ℕ
  pub is : x ≡ suc address
  pub object : Contains (objects h) (object_at h address)
  pub within : (object_at h address).refs + 1 + k < (object_at h address).size

-- the values of two data words that differ; of another difference, none
abbrev pub AreValues : Heap → Heap → How → ℕ → ℕ → ℕ → ℕ → Type 0
AreValues g h (Data k) x y u v = (u ≡ data_word g x k) × (v ≡ data_word h y k)
AreValues g h _ x y u v = (u ≡ 0) × (v ≡ 0)

-- the values at a difference of a walk; at a stale word, none
abbrev pub AreFoundValues : Heap → Heap → What → Ends → Type 0
AreFoundValues g h (what.Stale z) e = (e.word_before ≡ 0) × (e.word_after ≡ 0)
AreFoundValues g h (what.How how) e = AreValues g h how e.before e.after e.word_before e.word_after

-- the reference words that the path leads to in both heaps, and the values; another number of roots has no path
abbrev pub AreEnds : Heap → Heap → Difference → Ends → Type 0
AreEnds g h (Roots m n) e = (e.before ≡ 0) × (e.after ≡ 0) × (e.word_before ≡ 0) × (e.word_after ≡ 0)
AreEnds g h (At k ss how) e = Together g h (k ∷ ss.items) e.before e.after × AreValues g h how e.before e.after e.word_before e.word_after
