-- What a path from the roots leads to. A path is a list of numbers: that of a root, and then those of slots.
use Rattle.std.specs.Prelude.{◌≡◌, ◌<◌, ◌⊎◌, ℕ, zero, suc, List, [], ◌∷◌, ◌+◌, length, slice_index}
use Rattle.g1_words.specs.Heap.{Heap, word, object_at}

-- the slots of these numbers, one after another, lead from one reference word to another
abbrev pub Leads : Heap → List ℕ → ℕ → ℕ → Type 0
Leads h [] x y = x ≡ y
Leads h (s ∷ ss) zero y = ⊥
Leads h (s ∷ ss) (suc a) y = (s < (object_at h a).refs) × Leads h ss (word h (a + 1 + s)) y

-- the path leads to the reference word
abbrev pub LeadsTo : Heap → List ℕ → ℕ → Type 0
LeadsTo h [] y = ⊥
LeadsTo h (k ∷ ss) y = (k < length h.roots) × Leads h ss (slice_index h.roots k) y

-- the path leads to one reference word in one heap, and to the other in the other
abbrev pub Together : Heap → Heap → List ℕ → ℕ → ℕ → Type 0
Together g h p x y = LeadsTo g p x × LeadsTo h p y

-- of two lists of one length, the one that has the lower number where they first differ
abbrev pub Lower : List ℕ → List ℕ → Type 0
Lower [] q = ⊥
Lower (m ∷ p) [] = ⊥
Lower (m ∷ p) (n ∷ q) = (m < n) ⊎ ((m ≡ n) × Lower p q)

-- breadth-first order: the shorter path, and of two of one length the lower one
abbrev pub Before : List ℕ → List ℕ → Type 0
Before p q = (length p < length q) ⊎ ((length p ≡ length q) × Lower p q)
