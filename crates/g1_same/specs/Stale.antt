-- Stale words that paths lead to.
use Rattle.std.specs.Prelude.{◌≡◌, ◌⊎◌, ℕ, suc, List, [], ◌∷◌, ◌+◌, ◌++◌, Contains}
use Rattle.g1_words.specs.Heap.{Heap}
use Rattle.g1_same.specs.declared.difference.How.{How}
use Rattle.g1_same.specs.Path.{LeadsTo, Together, Before}
use Rattle.g1_same.specs.Same.{ClashAt}

-- the path ends at a root or a slot of the heap that the lists have, with this word
abbrev pub EndsStale : Heap → List (ℕ × ℕ) → List (ℕ × ℕ) → List ℕ → ℕ → Type 0
EndsStale h roots slots p z =
    ((k : ℕ) × (p ≡ k ∷ []) × Contains roots (k, z))
    ⊎ ((q : List ℕ) × (a : ℕ) × (n : ℕ) × (p ≡ q ++ n ∷ []) × LeadsTo h q (suc a) × Contains slots (a + 1 + n, z))

-- the path leads to a word before, and after to null in the place of this stale word
abbrev pub LeadsToStale : Heap → Heap → List (ℕ × ℕ) → List (ℕ × ℕ) → List ℕ → ℕ → ℕ → Type 0
LeadsToStale g h roots slots p x z = Together g h p x 0 × EndsStale h roots slots p z

-- no path before this one leads to a difference, and none to a stale word
pub record HasNoneBefore (g h : Heap) (roots slots : List (ℕ × ℕ)) (p : List ℕ) : Type 0 where
  pub no_difference : (q : List ℕ) (how : How) → Before q p → ClashAt g h q how → ⊥
  pub no_stale : (q : List ℕ) (x z : ℕ) → Before q p → LeadsToStale g h roots slots q x z → ⊥
