-- Graphs by name: what lines of objects by name say, one case a line.
use Rattle.std.specs.Prelude.{◌≡◌, ◌≢◌, ◌⊎◌, ◌≤◌, ◌<◌, ◌+◌, ◌-◌, ◌*◌, ◌^◌, ℕ, Option, Some, None, List, [], ◌∷◌, ◌++◌, length, map, take, drop, codes, sum_by, All, IfSome}
use Rattle.g1_words.specs.Geometry.{Geometry, IsWithinBounds, most_roots, most_words}
use Rattle.g1_text.specs.Reading.{HasLines}
use Rattle.g1_text.specs.Forms.{Spells, HasSize, IsName, IsDataWord}

-- an object: its name, its slots, each null or the name of an object, and its data words as they are written
pub record NamedObject : Type 0 where
  pub name : List ℕ
  pub slots : List (Option (List ℕ))
  pub written : List (List ℕ)

-- a root, null or the name of an object, and what holds it, if that was told
pub record NamedRoot : Type 0 where
  pub target : Option (List ℕ)
  pub holder : Option (List ℕ)

-- a graph by name: the sizes of the heap, if they were told, the roots and the objects, in the order of their lines
pub record NamedGraph : Type 0 where
  pub sizes : Option Geometry
  pub roots : List NamedRoot
  pub objects : List NamedObject

-- how many words an object has, with its header
abbrev pub size_of : NamedObject → ℕ
size_of o = length o.slots + length o.written + 1

-- how many words all objects have
abbrev pub words_of : NamedGraph → ℕ
words_of g = sum_by size_of g.objects

-- the most words that a heap may have: one of these sizes, if they were told, or else any
abbrev pub most_words_of : Option Geometry → ℕ
most_words_of None = most_words
most_words_of (Some s) = s.n * s.w

-- THE OBJECTS FIT by their words: a heap may have as many
abbrev pub FitsHeap : NamedGraph → Type 0
FitsHeap g = words_of g ≤ most_words_of g.sizes

-- sizes that were told are those of a heap
abbrev pub AreWithinBounds : Option Geometry → Type 0
AreWithinBounds sizes = IfSome sizes (λ s. IsWithinBounds s.w s.k s.n)

-- the word for a target: `-` for null, else the name
abbrev pub target_word : Option (List ℕ) → List ℕ
target_word None = codes "-"
target_word (Some name) = name

-- null, or a name that an object may have
abbrev pub IsTargetName : Option (List ℕ) → Type 0
IsTargetName target = IfSome target IsName

-- THE HEADING: graph [W K N]
abbrev pub SaysSizes : Option Geometry → List (List ℕ) → Type 0
SaysSizes None words = words ≡ codes "graph" ∷ []
SaysSizes (Some s) words =
    (w k n : List ℕ) × (words ≡ codes "graph" ∷ w ∷ k ∷ n ∷ []) × IsWithinBounds s.w s.k s.n × Spells (2 ^ 64) s.w w × Spells (2 ^ 64) s.k k × Spells (2 ^ 64) s.n n

-- [as HOLDER]
abbrev pub holder_words : Option (List ℕ) → List (List ℕ)
holder_words None = []
holder_words (Some holder) = codes "as" ∷ holder ∷ []

-- A ROOT: root NAME [as HOLDER]
pub record SaysRoot (r : NamedRoot) (words : List (List ℕ)) : Type 0 where
  pub target : IsTargetName r.target
  pub holder : IsTargetName r.holder
  pub line : words ≡ codes "root" ∷ target_word r.target ∷ holder_words r.holder

-- all these words; or the first ones, and `..` for the others, which are null slots and data words of 0
abbrev pub Shortens : List (List ℕ) → List (List ℕ) → List (List ℕ) → Type 0
Shortens slots values words =
    (words ≡ slots ++ values)
    ⊎ ((n : ℕ) × (words ≡ take n (slots ++ values) ++ codes ".." ∷ []) × All (λ s. s ≡ codes "-") (drop n slots) × All (λ v. v ≡ codes "0") (drop (n - length slots) values))

-- AN OBJECT: object NAME SIZE/SLOTS NAME .. WORD .. [..]
pub record SaysObject (o : NamedObject) (words : List (List ℕ)) : Type 0 where
  pub name : IsName o.name
  pub targets : All IsTargetName o.slots
  pub size : List ℕ
  pub has_size : HasSize (size_of o) (length o.slots) size
  pub fits : size_of o < 2 ^ 32
  pub are_data : All IsDataWord o.written
  pub content : List (List ℕ)
  pub shortens : Shortens (map target_word o.slots) o.written content
  pub line : words ≡ codes "object" ∷ o.name ∷ size ∷ content

-- what a heading alone says
abbrev pub empty_graph : Option Geometry → NamedGraph
empty_graph sizes = record { sizes = sizes; roots = []; objects = [] }

-- no object has this name
abbrev pub IsNewName : List ℕ → NamedGraph → Type 0
IsNewName name g = All (λ o. o.name ≢ name) g.objects

-- a root more
abbrev pub AddsRoot : NamedGraph → List (List ℕ) → NamedGraph → Type 0
AddsRoot g words h = (r : NamedRoot) × SaysRoot r words × (length g.roots < most_roots) × (h ≡ record g { roots = g.roots ++ r ∷ [] })

-- an object more, with a name that none above it has
abbrev pub AddsObject : NamedGraph → List (List ℕ) → NamedGraph → Type 0
AddsObject g words h = (o : NamedObject) × SaysObject o words × IsNewName o.name g × (h ≡ record g { objects = g.objects ++ o ∷ [] })

-- WHAT THE NEXT LINE SAYS, the first one of all or one below others
abbrev pub SaysNamed : Option NamedGraph → List (List ℕ) → NamedGraph → Type 0
SaysNamed None words h = (sizes : Option Geometry) × SaysSizes sizes words × (h ≡ empty_graph sizes)
SaysNamed (Some g) words h = AddsRoot g words h ⊎ AddsObject g words h

-- what lines say, one after the other
abbrev pub SayNamed : Option NamedGraph → List (List (List ℕ)) → Option NamedGraph → Type 0
SayNamed before [] after = before ≡ after
SayNamed before (line ∷ lines) after = (g : NamedGraph) × SaysNamed before line g × SayNamed (Some g) lines after

-- A TEXT SAYS A GRAPH: its lines say all of it, one after the other. Comments and blank lines say nothing
pub record SaysGraph (text : List ℕ) (g : NamedGraph) : Type 0 where
  pub lines : List (List (List ℕ))
  pub has : HasLines text lines
  pub says : SayNamed None lines (Some g)
