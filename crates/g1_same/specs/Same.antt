-- Where two heaps show one graph from the roots, and how they differ where they do not.
use Rattle.std.specs.Prelude.{◌≡◌, ◌≢◌, ◌<◌, ℕ, suc, List, ◌∷◌, ◌+◌, length, map}
use Rattle.g1_words.specs.Heap.{Heap, word, object_at}
use Rattle.g1_words.specs.References.{root_targets, targets}
use Rattle.g1_words.specs.Survivors.{IsBreadthFirst}
use Rattle.g1_words.specs.Graph.{SameGraph}
use Rattle.g1_same.specs.declared.difference.How.{How}
use Rattle.g1_same.specs.declared.difference.How.TheVariants.{NullBefore, NullAfter, Split, Joined, Size, Slots, Data}
use Rattle.g1_same.specs.declared.difference.Difference.{Difference}
use Rattle.g1_same.specs.declared.difference.Difference.TheVariants.{Roots, At}
use Rattle.g1_same.specs.Path.{Together, Before}

-- How the words that a path leads to disagree. An earlier path makes one object before two after, or two before one after.
abbrev pub IsClash : Heap → Heap → List ℕ → How → ℕ → ℕ → Type 0
IsClash g h p NullBefore x y = (x ≡ 0) × (y ≢ 0)
IsClash g h p NullAfter x y = (x ≢ 0) × (y ≡ 0)
IsClash g h p (Split a m n) x y =
    (x ≡ suc a) × (y ≡ suc n) × (m ≢ n) × (q : List ℕ) × Before q p × Together g h q (suc a) (suc m)
IsClash g h p (Joined m n b) x y =
    (x ≡ suc n) × (y ≡ suc b) × (m ≢ n) × (q : List ℕ) × Before q p × Together g h q (suc m) (suc b)
IsClash g h p (Size m n) x y =
    (a : ℕ) × (b : ℕ) × (x ≡ suc a) × (y ≡ suc b) × ((object_at g a).size ≡ m) × ((object_at h b).size ≡ n) × (m ≢ n)
IsClash g h p (Slots m n) x y =
    (a : ℕ) × (b : ℕ) × (x ≡ suc a) × (y ≡ suc b) × ((object_at g a).refs ≡ m) × ((object_at h b).refs ≡ n) × (m ≢ n)
IsClash g h p (Data k) x y =
    (a : ℕ) × (b : ℕ) × (x ≡ suc a) × (y ≡ suc b) × (word g a ≡ word h b) × ((object_at g a).refs + 1 + k < (object_at g a).size)
    × (word g (a + 1 + (object_at g a).refs + k) ≢ word h (b + 1 + (object_at g a).refs + k))

-- what is told is so in both heaps
abbrev pub IsDifference : Heap → Heap → Difference → Type 0
IsDifference g h (Roots m n) = (length g.roots ≡ m) × (length h.roots ≡ n) × (m ≢ n)
IsDifference g h (At k ss how) =
    (x : ℕ) × (y : ℕ) × Together g h (k ∷ ss.items) x y × IsClash g h (k ∷ ss.items) how x y

-- which of several disagreements at one path is told: the lowest
abbrev pub rank : How → ℕ
rank NullBefore = 0
rank NullAfter = 1
rank (Split a m n) = 2
rank (Joined m n b) = 3
rank (Size m n) = 4
rank (Slots m n) = 5
rank (Data k) = 6 + k

-- the words that the path leads to disagree, in this way or another
abbrev pub ClashAt : Heap → Heap → List ℕ → How → Type 0
ClashAt g h p how = (x : ℕ) × (y : ℕ) × Together g h p x y × IsClash g h p how x y

-- nothing that comes before it in breadth-first order is a difference
abbrev pub IsEarliest : Heap → Heap → Difference → Type 0
IsEarliest g h (Roots m n) = Unit {0}
IsEarliest g h (At k ss how) =
    (length g.roots ≡ length h.roots)
    × ((q : List ℕ) (other : How) → Before q (k ∷ ss.items) → ClashAt g h q other → ⊥)
    × ((other : How) → rank other < rank how → ClashAt g h (k ∷ ss.items) other → ⊥)

-- the first difference
pub record IsFirstDifference (g h : Heap) (d : Difference) : Type 0 where
  pub is : IsDifference g h d
  pub earliest : IsEarliest g h d

-- the objects that the roots of the one heap reach, in breadth-first order, and where each stands in the other
pub record IsRenaming (g h : Heap) (olds news : List ℕ) : Type 0 where
  pub same : SameGraph g h
  pub found : IsBreadthFirst (root_targets g) (targets g) olds
  pub renames : news ≡ map same.rename olds
