-- Three small graphs by name: two that are the same, and one that is another.
use Rattle.std.specs.Prelude.{ℕ, Some, None, List, [], ◌∷◌, codes}
use Rattle.g1_text.specs.Graphs.{NamedObject, NamedGraph}

-- an object with two slots and a data word, and one with a data word alone
abbrev pub pair : List ℕ → List ℕ → List ℕ → List ℕ → NamedObject
pair name left right written = record { name = name; slots = Some left ∷ Some right ∷ []; written = written ∷ [] }

abbrev pub leaf : List ℕ → List ℕ → NamedObject
leaf name written = record { name = name; slots = []; written = written ∷ [] }

abbrev pub with_root : List ℕ → List NamedObject → NamedGraph
with_root name objects = record { sizes = None; roots = record { target = Some name; holder = None } ∷ []; objects = objects }

-- root a, object a 4/2 b c 7, object b 2/0 5, object c 2/0 6
abbrev pub told : NamedGraph
told = with_root (codes "a") (pair (codes "a") (codes "b") (codes "c") (codes "7") ∷ leaf (codes "b") (codes "5") ∷ leaf (codes "c") (codes "6") ∷ [])

-- the same with other names and in another order, with a 5 in other digits, and beside it an object that no root reaches
abbrev pub told_otherwise : NamedGraph
told_otherwise = with_root (codes "x") (leaf (codes "z") (codes "6") ∷ leaf (codes "w") (codes "8") ∷ leaf (codes "y") (codes "0x5") ∷ pair (codes "x") (codes "y") (codes "z") (codes "7") ∷ [])

-- two slots exchanged
abbrev pub exchanged : NamedGraph
exchanged = with_root (codes "a") (pair (codes "a") (codes "c") (codes "b") (codes "7") ∷ leaf (codes "b") (codes "5") ∷ leaf (codes "c") (codes "6") ∷ [])
