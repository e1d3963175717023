-- When two sides agree as asked.
use Rattle.std.specs.Prelude.{◌≢◌, ◌||◌, ℕ, Bool, not, List, [], Option, Some, None, filter, nat_le}
use Rattle.g1_words.specs.Lists.{has}
use Rattle.g1_words.specs.Heap.{Heap, kind, regions, is_free}
use Rattle.g1_words.specs.Graph.{SameGraph}
use Rattle.g1_same.specs.Stale.{LeadsToStale}
use Rattle.g1_kept.specs.Keeps.{Keeps}
use Rattle.g1_report.specs.declared.sides.Strays.{Strays}

-- the stale words of a side with the numbers of their roots, and with the addresses of their slots
abbrev pub stale_roots : Option Strays → List (ℕ × ℕ)
stale_roots None = []
stale_roots (Some s) = s.words.roots.items

abbrev pub stale_slots : Option Strays → List (ℕ × ℕ)
stale_slots None = []
stale_slots (Some s) = s.words.slots.items

-- the regions that are named and not left out: those that the heap does not have, and those that are not free
abbrev pub used : Heap → List ℕ → List ℕ
used g set = filter (λ r. nat_le g.geometry.n r || not (is_free (kind g r))) set

-- those of the heap among them, rising
abbrev pub collected : Heap → List ℕ → List ℕ
collected g set = filter (has (used g set)) (regions g)

-- no path leads to a stale word
abbrev pub ReachesNoStale : Heap → Heap → Option Strays → Type 0
ReachesNoStale g h stale = (p : List ℕ) (x z : ℕ) → LeadsToStale g h (stale_roots stale) (stale_slots stale) p x z → ⊥

-- the second heap keeps what a pause of the set keeps of the first one, if a set is given
abbrev pub KeepsSet : Heap → Heap → List ℕ → Bool → Type 0
KeepsSet g h set fill = set ≢ [] → Keeps fill (collected g set) g h

-- THE TWO AGREE AS ASKED: they show one graph, no path leads to a stale word of the second, and what a pause of the set keeps is kept
pub record AgreeAsAsked (g h : Heap) (stale : Option Strays) (set : List ℕ) (fill : Bool) : Type 0 where
  pub graph : SameGraph g h
  pub no_stale : ReachesNoStale g h stale
  pub kept : KeepsSet g h set fill
