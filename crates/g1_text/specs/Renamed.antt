-- When two graphs by name are one graph, whatever the names and the order of their lines.
use Rattle.std.specs.Prelude.{◌≡◌, ◌≢◌, ◌⊎◌, ℕ, Option, Some, List, AllPairs, Contains}
use Rattle.std.specs.List.{AllZip}
use Rattle.g1_text.specs.Forms.{StandsFor}
use Rattle.g1_text.specs.Graphs.{NamedObject, NamedRoot, NamedGraph}

-- each object has a name of its own
abbrev pub HasOwnNames : NamedGraph → Type 0
HasOwnNames g = AllPairs (λ o p. o.name ≢ p.name) g.objects

-- what a slot or a root names is this object
abbrev pub LeadsTo : NamedGraph → Option (List ℕ) → NamedObject → Type 0
LeadsTo g target o = Contains g.objects o × (target ≡ Some o.name)

-- it is null, or a name that no object has
abbrev pub LeadsNowhere : NamedGraph → Option (List ℕ) → Type 0
LeadsNowhere g target = (o : NamedObject) → LeadsTo g target o → ⊥

-- the objects that the roots name, and those that the slots of such objects name
pub data IsReached (g : NamedGraph) : NamedObject → Type 0 where
  by_root : {o : NamedObject} (r : NamedRoot) → Contains g.roots r → LeadsTo g r.target o → IsReached g o
  by_slot : {o p : NamedObject} (target : Option (List ℕ)) → IsReached g o → Contains o.slots target → LeadsTo g target p → IsReached g p

-- two slots or roots match: both lead nowhere, or each to an object, and the second object has the new name of the first one
abbrev pub Match : (List ℕ → List ℕ) → NamedGraph → NamedGraph → Option (List ℕ) → Option (List ℕ) → Type 0
Match rename g h target other =
    (LeadsNowhere g target × LeadsNowhere h other)
    ⊎ ((o p : NamedObject) × LeadsTo g target o × LeadsTo h other p × (rename o.name ≡ p.name))

-- two data words stand for one number
abbrev pub StandForOne : List ℕ → List ℕ → Type 0
StandForOne word other = (n : ℕ) × StandsFor n word × StandsFor n other

-- an object is another one with a new name: their slots match, and their data words stand for the same numbers
pub record IsRenamed (rename : List ℕ → List ℕ) (g h : NamedGraph) (o p : NamedObject) : Type 0 where
  pub name : rename o.name ≡ p.name
  pub slots : AllZip (Match rename g h) o.slots p.slots
  pub data_words : AllZip StandForOne o.written p.written

-- THE SAME BY NAME: new names, one for each object that is reached and no two alike, make one graph of the other. What no
-- path from the roots reaches plays no part, nor do sizes, holders and the order of the objects
pub record SameByName (g h : NamedGraph) : Type 0 where
  pub rename : List ℕ → List ℕ
  pub one_to_one : (o p : NamedObject) → IsReached g o → IsReached g p → rename o.name ≡ rename p.name → o.name ≡ p.name
  pub roots : AllZip (λ r q. Match rename g h r.target q.target) g.roots h.roots
  pub objects : (o : NamedObject) → IsReached g o → (p : NamedObject) × Contains h.objects p × IsRenamed rename g h o p
