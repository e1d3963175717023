-- What is found first of two heaps, and why there is no verdict on them.
use Rattle.std.specs.Prelude.{◌≡◌, ◌≢◌, ℕ, zero, suc, Bool, List, [], Option, Some, None, slice_index, AllPairs}
use Rattle.g1_words.specs.declared.fault.Fault.TheVariants as fault
use Rattle.g1_words.specs.Heap.{Heap}
use Rattle.g1_words.specs.Graph.{SameGraph}
use Rattle.g1_image.specs.Stale.{HasLowerPlace}
use Rattle.g1_choose.specs.Named.{IsFirstBad}
use Rattle.g1_text.specs.declared.expected.Wrong.{Wrong}
use Rattle.g1_same.specs.declared.comparing_stale.Earliest.TheVariants as earliest
use Rattle.g1_same.specs.Same.{IsFirstDifference, IsRenaming}
use Rattle.g1_same.specs.Earliest.{HasNoStaleUntil, IsEarliestOf}
use Rattle.g1_kept.specs.declared.lost.Lost.{Lost}
use Rattle.g1_kept.specs.Keeps.{Keeps}
use Rattle.g1_kept.specs.Lost.{IsLoss}
use Rattle.g1_kept.specs.Order.{IsEarliestLoss}
use Rattle.g1_report.specs.declared.sides.Strays.{Strays}
use Rattle.g1_report.specs.declared.verdict.Finding.{Finding}
use Rattle.g1_report.specs.declared.verdict.Finding.TheVariants.{Same, Differ, Stale}
use Rattle.g1_report.specs.declared.reporting.Refused.{Refused}
use Rattle.g1_report.specs.declared.reporting.Refused.TheVariants as refused
use Rattle.g1_report.specs.Taken.{StopsLines, TakesNone}
use Rattle.g1_report.specs.Agreement.{stale_roots, stale_slots, used, collected, ReachesNoStale, AgreeAsAsked}

-- the renaming, and no stale word is there; or the first difference, with no stale word before it; or the stale word that comes first
abbrev pub IsFinding : Heap → Heap → Option Strays → Finding → Type 0
IsFinding g h stale (Same r) = IsRenaming g h r.before.items r.after.items × (stale ≡ None)
IsFinding g h stale (Differ d) = IsFirstDifference g h d × HasNoStaleUntil g h (stale_roots stale) (stale_slots stale) d × (SameGraph g h → ⊥)
IsFinding g h stale (Stale e) = IsEarliestOf g h (stale_roots stale) (stale_slots stale) (earliest.Stale e)

-- the lists of stale words rise by place
pub record RiseByPlace (s : Strays) : Type 0 where
  pub roots : AllPairs HasLowerPlace s.words.roots.items
  pub slots : AllPairs HasLowerPlace s.words.slots.items

-- This is wrong with the stale words of a side. If they rise by place, no path leads to one, and the graphs are one.
abbrev pub IsIdle : Heap → Heap → Option Strays → Wrong → Type 0
IsIdle g h None w = ⊥
IsIdle g h (Some s) w = (w ≡ s.wrong) × (RiseByPlace s → SameGraph g h × ReachesNoStale g h (Some s))

-- a fault stopped it: memory ran out, or the output failed
abbrev pub IsFault : Refused → Type 0
IsFault (refused.Fault f) = StopsLines f
IsFault _ = ⊥

-- WHY THERE IS NO VERDICT: the first region of the set that no pause collects; or stale words that no path leads to, where the graphs
-- are one; or memory that ran out, or the output that failed, and no other fault
abbrev pub IsRefusal : Heap → Heap → Option Strays → List ℕ → Refused → Type 0
IsRefusal g h stale set (refused.Fault f) = StopsLines f
IsRefusal g h stale set (refused.Set f) = (i : ℕ) × IsFirstBad g (used g set) i × (f ≡ fault.Set (slice_index (used g set) i))
IsRefusal g h stale set (refused.Stale w) = IsIdle g h stale w

-- a set is given, and the second heap loses this first of what a pause of it keeps of the first one
pub record Loses (g h : Heap) (set : List ℕ) (fill : Bool) (l : Lost) : Type 0 where
  pub given : set ≢ []
  pub is : IsLoss fill (collected g set) g h l
  pub earliest : IsEarliestLoss fill (collected g set) g h l
  pub never : Keeps fill (collected g set) g h → ⊥

-- THE STATUS of a verdict: 0 if the two agree as asked, and 1 if they do not
abbrev pub IsVerdict : Heap → Heap → Option Strays → List ℕ → Bool → ℕ → Type 0
IsVerdict g h stale set fill zero = AgreeAsAsked g h stale set fill
IsVerdict g h stale set fill (suc zero) = AgreeAsAsked g h stale set fill → ⊥
IsVerdict g h stale set fill (suc (suc n)) = ⊥

-- a set that no pause collects and stale words that no path leads to are told before anything is taken
abbrev pub IsUntouched : Option (List ℕ) → Option (List ℕ) → Refused → Type 0
IsUntouched old new (refused.Fault f) = Unit {0}
IsUntouched old new _ = TakesNone old new
