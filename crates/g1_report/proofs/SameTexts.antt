-- The status of two texts of graphs by name.
use Rattle.std.proofs.Common.{◌≡◌, inl, inr, ℕ, zero, suc, Bool, List, [], sym, subst, arith}
use Rattle.std.specs.Prelude.{Option, None, ◌↔◌}
use Rattle.g1_words.specs.Graph.{SameGraph}
use Rattle.g1_text.specs.Graphs.{NamedGraph}
use Rattle.g1_text.specs.Renamed.{SameByName}
use Rattle.g1_text.proofs.NamedObjects.{texts_give_own_names}
use Rattle.g1_text.proofs.OneGraph.{texts_say_one_graph}
use Rattle.g1_text.proofs.Renaming.{same_carried}
use Rattle.g1_words.specs.Heap.{Heap}
use Rattle.g1_report.specs.declared.sides.Strays.{Strays}
use Rattle.g1_report.specs.declared.reporting.Asked.{Asked}
use Rattle.g1_report.specs.Agreement.{ReachesNoStale, AgreeAsAsked}
use Rattle.g1_report.specs.Finding.{IsVerdict}
use Rattle.g1_report.specs.Opened.{AsksOfGraphs, IsVerdictByName}

-- the heaps that are compared show one graph exactly if the graphs are the same by name
same_graphs : (a : Asked) (g h : NamedGraph) → AsksOfGraphs a g h → SameGraph a.before.now.image.heap a.after.now.image.heap ↔ SameByName g h
same_graphs a g h asks =
    let old = asks.before.2 in
    let new = asks.after.2 in
    let same = same_carried old.graph new.graph old.ats new.ats a.before.now.image.heap a.after.now.image.heap
    (texts_give_own_names asks.before.0 old.graph old.says) (texts_give_own_names asks.after.0 new.graph new.says) old.image.1.0.heap new.image.1.0.heap old.carries new.carries in
    let first : old.graph ≡ g = texts_say_one_graph asks.before.0 old.graph g old.says asks.before.1 in
    let second : new.graph ≡ h = texts_say_one_graph asks.after.0 new.graph h new.says asks.after.1 in
    subst (λ g. SameGraph a.before.now.image.heap a.after.now.image.heap ↔ SameByName g h) first
    (subst (λ h. SameGraph a.before.now.image.heap a.after.now.image.heap ↔ SameByName old.graph h) second same)

-- no path leads to a stale word where there is none
none_reached : (x y : Heap) → ReachesNoStale x y None
none_reached x y p w z (together, inl e) = absurd (let lt = e.2.1 in omega (arith, lt))
none_reached x y p w z (together, inr e) = absurd (let lt = e.5.1 in omega (arith, lt))

agreed : (x y : Heap) (stale : Option Strays) (set : List ℕ) (fill : Bool) → stale ≡ None → set ≡ [] → SameGraph x y → AgreeAsAsked x y stale set fill
agreed x y stale set fill none empty same = record {
  graph = same;
  no_stale = subst (ReachesNoStale x y) (sym none) (none_reached x y);
  kept = λ some. absurd (some empty);
}

pub status_by_name : (a : Asked) (g h : NamedGraph) (status : ℕ) → AsksOfGraphs a g h
    → IsVerdict a.before.now.image.heap a.after.now.image.heap a.after.now.stale a.set.now a.fill status → IsVerdictByName g h status
status_by_name a g h zero asks agree = (same_graphs a g h asks).0 agree.graph
status_by_name a g h (suc zero) asks never = λ same.
    never (agreed a.before.now.image.heap a.after.now.image.heap a.after.now.stale a.set.now a.fill asks.no_stale asks.no_set ((same_graphs a g h asks).1 same))
status_by_name a g h (suc (suc n)) asks none = none
