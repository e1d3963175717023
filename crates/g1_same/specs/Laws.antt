-- The laws that public functions of this crate prove.
use Rattle.std.specs.Prelude.{◌≡◌, ◌⊎◌, ℕ, List, [], ◌+◌, length}
use Rattle.g1_words.specs.Heap.{Heap}
use Rattle.g1_words.specs.Valid.{IsValid}
use Rattle.g1_words.specs.Graph.{SameGraph}
use Rattle.g1_same.specs.declared.difference.Difference.{Difference}
use Rattle.g1_same.specs.declared.difference.Difference.TheVariants.{Roots, At}
use Rattle.g1_same.specs.declared.stale.StaleWords.{StaleWords}
use Rattle.g1_same.specs.declared.walk.Walk.{Walk}
use Rattle.g1_same.specs.declared.walk.Found.{Found}
use Rattle.g1_same.specs.Same.{IsDifference, IsFirstDifference, IsRenaming}
use Rattle.g1_same.specs.Walk.{IsTour, IsRoute}
use Rattle.g1_same.specs.Behind.{AreByPlace, FindsAlike, IsNext, IsNextStale, LinksBetween, PassesNoStale}
use Rattle.g1_same.specs.Underway.{FindsAlikeUntil}
use Rattle.g1_same.specs.Stale.{LeadsToStale, HasNoneBefore}

-- heaps with a difference do not show one graph
abbrev pub NeverBoth : Type 0
NeverBoth = (g h : Heap) (d : Difference) → IsValid g → IsDifference g h d → SameGraph g h → ⊥

-- the two tell the same
abbrev pub TellSame : Difference → Difference → Type 0
TellSame (Roots m n) (Roots i j) = (m ≡ i) × (n ≡ j)
TellSame (At k ss how) (At l ts other) = (k ≡ l) × (ss.items ≡ ts.items) × (how ≡ other)
TellSame _ _ = ⊥

-- two heaps have one first difference at most
abbrev pub OneFirst : Type 0
OneFirst = (g h : Heap) (d e : Difference) → IsFirstDifference g h d → IsFirstDifference g h e → TellSame d e

-- two heaps have one renaming at most
abbrev pub OneRenaming : Type 0
OneRenaming = (g h : Heap) (olds news others images : List ℕ) → IsValid g → IsRenaming g h olds news → IsRenaming g h others images → (olds ≡ others) × (news ≡ images)

-- two valid heaps show one graph, or have a first difference
abbrev pub SameOrDiffers : Type 0
SameOrDiffers = (g h : Heap) → IsValid g → IsValid h → SameGraph g h ⊎ ((d : Difference) × IsFirstDifference g h d)

-- where a walk from the start returns nothing, the heaps show one graph, and no path leads to a stale word
abbrev pub NothingLeft : Type 0
NothingLeft = (g h : Heap) (s : StaleWords) (v w : Walk) → IsValid g → IsValid h → length g.roots ≡ length h.roots → AreByPlace s → v.before.items ≡ [] → IsTour g h w
    → FindsAlike g h v w → LinksBetween g h w 0 0 (length w.before.items + 1) 0 → PassesNoStale g h s w 0 0 (length w.before.items + 1) 0
    → SameGraph g h × ((p : List ℕ) (x z : ℕ) → LeadsToStale g h s.roots.now s.slots.now p x z → ⊥)

-- what a walk from the start returns first is the first of all differences and stale words
abbrev pub FirstOfAll : Type 0
FirstOfAll = (g h : Heap) (s : StaleWords) (v w : Walk) (d : Found) (p : List ℕ) → IsValid g → IsValid h → length g.roots ≡ length h.roots → AreByPlace s → v.before.items ≡ [] → IsTour g h w
    → FindsAlikeUntil g h v w d.place.way.from d.place.way.number → IsNext g h w 0 0 d → IsNextStale g h s w 0 0 d → IsRoute w d.place.way.from d.place.way.number p → HasNoneBefore g h s.roots.now s.slots.now p
