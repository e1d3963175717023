-- What is written for the objects of a graph by name, once they have addresses.
use Rattle.std.specs.Prelude.{◌≡◌, ◌+◌, ◌*◌, ◌^◌, ℕ, None, List, [], ◌∷◌, ◌++◌, length, map, slice_index, slice_index_or, All}
use Rattle.std.specs.List.{AllZip}
use Rattle.g1_text.specs.declared.named.Lines.{Lines}
use Rattle.g1_text.specs.declared.filling.Stale.{Stale}
use Rattle.g1_text.specs.Forms.{StandsFor}
use Rattle.g1_text.specs.Graphs.{NamedObject, NamedGraph, size_of}
use Rattle.g1_text.specs.ByName.{HasRead}
use Rattle.g1_text.specs.Carried.{word_for}
use Rattle.g1_text.specs.Laid.{IsAddress}

-- the lines have this graph, and each object has an address
pub record AreLocated (l : Lines) (g : NamedGraph) (ats : List ℕ) : Type 0 where
  pub read : HasRead l g
  pub count : length ats ≡ length g.objects
  pub small : All IsAddress ats

-- the object at this place of the lines
abbrev pub object_of : NamedGraph → ℕ → NamedObject
object_of g k = slice_index_or g.objects k (record { name = []; slots = []; written = [] })

-- the objects at these places, with their addresses
abbrev pub located : NamedGraph → List ℕ → List ℕ → List (NamedObject × ℕ)
located g ats order = map (λ k. (object_of g k, slice_index ats k)) order

-- the words of an object: its header, its slots, and words that its data words stand for
pub record AreWordsOf (g : NamedGraph) (ats : List ℕ) (o : NamedObject) (words : List ℕ) : Type 0 where
  pub values : List ℕ
  pub stand : AllZip StandsFor values o.written
  pub whole : words ≡ (size_of o * 2 ^ 32 + length o.slots) ∷ (map (word_for g ats) o.slots ++ values)

-- the first line with a name that no object has is known, if there is such a name
abbrev pub IsNoted : Stale → Type 0
IsNoted s = s.first ≡ None → s.names.items ≡ []
