-- What comes first of two heaps of which the second has stale words.
use Rattle.std.specs.Prelude.{◌≡◌, ◌⊎◌, ℕ, List, ◌∷◌, length}
use Rattle.g1_words.specs.Heap.{Heap}
use Rattle.g1_same.specs.declared.difference.Difference.{Difference}
use Rattle.g1_same.specs.declared.difference.Difference.TheVariants.{Roots, At}
use Rattle.g1_same.specs.declared.comparing_stale.Earliest.{Earliest}
use Rattle.g1_same.specs.declared.comparing_stale.Earliest.TheVariants.{Differ, Stale}
use Rattle.g1_same.specs.Path.{Before}
use Rattle.g1_same.specs.Same.{IsFirstDifference}
use Rattle.g1_same.specs.Stale.{LeadsToStale, HasNoneBefore}

-- no path to the difference, and none before it, leads to a stale word
abbrev pub HasNoStaleUntil : Heap → Heap → List (ℕ × ℕ) → List (ℕ × ℕ) → Difference → Type 0
HasNoStaleUntil g h roots slots (Roots m n) = Unit {0}
HasNoStaleUntil g h roots slots (At k ss how) =
    (q : List ℕ) (x z : ℕ) → (q ≡ k ∷ ss.items) ⊎ Before q (k ∷ ss.items) → LeadsToStale g h roots slots q x z → ⊥

-- the first difference, with no stale word before it or in its place; or a stale word, with neither a difference nor a stale word before it
abbrev pub IsEarliestOf : Heap → Heap → List (ℕ × ℕ) → List (ℕ × ℕ) → Earliest → Type 0
IsEarliestOf g h roots slots (Differ d) = IsFirstDifference g h d × HasNoStaleUntil g h roots slots d
IsEarliestOf g h roots slots (Stale e) =
    (length g.roots ≡ length h.roots) × LeadsToStale g h roots slots (e.root ∷ e.slots.items) e.before e.word × HasNoneBefore g h roots slots (e.root ∷ e.slots.items)
