-- What the side of lines shows, and why lines have no side.
use Rattle.std.specs.Prelude.{◌≡◌, ◌⊎◌, ℕ, zero, suc, List, Option, Some, None, IsSome, [], map}
use Rattle.g1_words.specs.declared.limits.Limits.TheVariants.{Wide}
use Rattle.g1_words.specs.declared.fault.Fault.{Fault}
use Rattle.g1_words.specs.declared.fault.Fault.TheVariants.{Memory}
use Rattle.g1_image.specs.Faults.{FaultWithin}
use Rattle.g1_image.specs.declared.stale.Stale.{Stale}
use Rattle.g1_image.specs.Image.{IsTextWithin}
use Rattle.g1_text.specs.Graphs.{NamedGraph, SaysGraph}
use Rattle.g1_text.specs.ByName.{read_holder, holders_from}
use Rattle.g1_text.specs.Carried.{Carries, AreListed, AllNamed, HoldsGraph}
use Rattle.g1_text.specs.Renamed.{SameByName}
use Rattle.g1_text.specs.declared.named.Graph.{Graph}
use Rattle.g1_text.specs.declared.expected.Wrong.{Wrong}
use Rattle.g1_text.specs.declared.expected.Wrong.TheVariants.{Line, Fault as OfFault}
use Rattle.g1_report.specs.declared.reporting.Asked.{Asked}
use Rattle.g1_report.specs.declared.sides.Side.{Side}
use Rattle.g1_report.specs.declared.sides.Strays.{Strays}
use Rattle.g1_report.specs.Wording.{Called}
use Rattle.g1_report.specs.Answer.{labels_of}

-- the names are those of all objects of the graph, by rising address
abbrev pub AreNamesOf : NamedGraph → List ℕ → Option Called → Type 0
AreNamesOf g ats None = ⊥
AreNamesOf g ats (Some names) = (roots : List (ℕ × List ℕ)) × (slots : List (ℕ × List ℕ)) × AreListed g ats (map read_holder names) roots slots

-- the stale words are these, this fault is wrong with them, and they stand for no names
abbrev pub IsStale : Stale → Fault → Option Strays → Type 0
IsStale words fault None = ⊥
IsStale words fault (Some s) = (s.words ≡ words) × (s.names.items ≡ []) × (s.wrong ≡ OfFault fault)

-- THE SIDE SHOWS THE GRAPH of the text: its image, which is what some bytes say, has a heap that carries the graph, each object
-- at an address of its own. The names are those of the graph. If there are no stale words, each name in a slot or a root is an
-- object's
pub record ShowsText (text : List ℕ) (s : Side) : Type 0 where
  pub graph : NamedGraph
  pub says : SaysGraph text graph
  pub ats : List ℕ
  pub bytes : List ℕ
  pub image : IsTextWithin Wide bytes s.image
  pub carries : Carries graph ats s.image.heap
  pub labels : AreNamesOf graph ats (labels_of s)
  pub holders : map read_holder s.holders.items ≡ holders_from 0 graph.roots
  pub named : s.stale ≡ None → AllNamed graph

-- the objects of the side have names, as those of lines do
abbrev pub HasNames : Side → Type 0
HasNames s = IsSome s.labels

-- the text says a graph, and the bytes that hold it have this fault
pub record HoldsFault (text : List ℕ) (f : Fault) : Type 0 where
  pub graph : NamedGraph
  pub says : SaysGraph text graph
  pub holder : Graph
  pub holds : HoldsGraph graph holder
  pub fault : FaultWithin Wide holder.text.items f

-- WHY LINES HAVE NO SIDE: a line is not what is expected there, and which line that is, nothing says; or memory ran out; or the
-- text says a graph, and the bytes that hold it have a fault
abbrev pub IsNoText : List ℕ → Wrong → Type 0
IsNoText text (Line number expected) = Unit {0}
IsNoText text (OfFault f) = (f ≡ Memory) ⊎ HoldsFault text f

-- the side shows a text that says this graph
abbrev pub ShowsGraph : NamedGraph → Side → Type 0
ShowsGraph g s = (text : List ℕ) × SaysGraph text g × ShowsText text s

-- two texts that say these graphs are compared, and nothing is asked of a set. No name in the second text is one that no object has
pub record AsksOfGraphs (a : Asked) (g h : NamedGraph) : Type 0 where
  pub before : ShowsGraph g a.before.now
  pub after : ShowsGraph h a.after.now
  pub no_stale : a.after.now.stale ≡ None
  pub no_set : a.set.now ≡ []

-- THE STATUS OF TWO GRAPHS: 0 if they are the same by name, and 1 if they are not
abbrev pub IsVerdictByName : NamedGraph → NamedGraph → ℕ → Type 0
IsVerdictByName g h zero = SameByName g h
IsVerdictByName g h (suc zero) = SameByName g h → ⊥
IsVerdictByName g h (suc (suc n)) = ⊥
