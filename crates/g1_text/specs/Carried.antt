-- When a heap carries a graph by name.
use Rattle.std.specs.Prelude.{◌≡◌, ◌≢◌, ◌↔◌, ◌<◌, ◌+◌, ℕ, Option, Some, None, List, [], ◌∷◌, ◌++◌, length, map, flat_map, slice_index, unwrap_or, All, AllPairs, Contains, IfSome}
use Rattle.std.specs.List.{AllZip, zip}
use Rattle.std.specs.Option.{option_map}
use Rattle.g1_words.specs.Heap.{Heap}
use Rattle.g1_words.specs.Valid.{HasObject}
use Rattle.g1_words.specs.Copy.{words_at}
use Rattle.g1_words.specs.declared.object.Object.{Object}
use Rattle.g1_text.specs.Forms.{StandsFor}
use Rattle.g1_text.specs.Graphs.{NamedObject, NamedRoot, NamedGraph, size_of}
use Rattle.g1_text.specs.ByName.{place_of, read_holder}
use Rattle.g1_text.specs.declared.named.Graph.{Graph}
use Rattle.g1_words.specs.declared.limits.Limits.TheVariants.{Wide}
use Rattle.g1_image.specs.Text.{File, file_text}
use Rattle.g1_image.specs.Image.{Image, IsTextWithin, heap_of}

-- In each definition, `ats` has the address of each object of the graph, in the order of the lines.

-- the reference word for what a slot or a root names: 0 for null, 1 more than the address of the object with the name, and
-- none if no object has it
abbrev pub reference_for : NamedGraph → List ℕ → Option (List ℕ) → Option ℕ
reference_for g ats None = Some 0
reference_for g ats (Some name) = option_map (λ place. slice_index ats place + 1) (place_of name g.objects)

-- the word that is written for it: null for a name that no object has
abbrev pub word_for : NamedGraph → List ℕ → Option (List ℕ) → ℕ
word_for g ats target = unwrap_or (reference_for g ats target) 0

-- the word of a root
abbrev pub root_value : NamedGraph → List ℕ → NamedRoot → ℕ
root_value g ats r = word_for g ats r.target

-- AN OBJECT STANDS at an address of the heap: its size, its slots, and words that its data words stand for
pub record StandsAt (g : NamedGraph) (ats : List ℕ) (h : Heap) (o : NamedObject) (at : ℕ) : Type 0 where
  pub object : HasObject h (record { at = at; size = size_of o; refs = length o.slots })
  pub slots : words_at h (at + 1) (length o.slots) ≡ map (word_for g ats) o.slots
  pub data_words : AllZip StandsFor (words_at h (at + 1 + length o.slots) (length o.written)) o.written

-- THE HEAP CARRIES THE GRAPH: each object of the graph stands at an address of its own, no other object is there, and the
-- roots are those of the graph
pub record Carries (g : NamedGraph) (ats : List ℕ) (h : Heap) : Type 0 where
  pub sizes : IfSome g.sizes (λ s. h.geometry ≡ s)
  pub objects : AllZip (StandsAt g ats h) g.objects ats
  pub apart : AllPairs (λ a b. a ≢ b) ats
  pub no_other : (o : Object) → HasObject h o → Contains ats o.at
  pub roots : h.roots ≡ map (root_value g ats) g.roots

-- NAMES THAT NO OBJECT HAS

-- a number and the name there, if no object has the name
abbrev pub stale_if : Option ℕ → ℕ → List ℕ → List (ℕ × List ℕ)
stale_if None n name = (n, name) ∷ []
stale_if (Some place) n name = []

abbrev pub stale_at : NamedGraph → ℕ → Option (List ℕ) → List (ℕ × List ℕ)
stale_at g n None = []
stale_at g n (Some name) = stale_if (place_of name g.objects) n name

-- those of slots or roots, whose numbers count up from this one
abbrev pub stale_from : NamedGraph → ℕ → List (Option (List ℕ)) → List (ℕ × List ℕ)
stale_from g n [] = []
stale_from g n (target ∷ targets) = stale_at g n target ++ stale_from g (n + 1) targets

-- those of an object's slots, with the addresses of the slots
abbrev pub stale_slots : NamedGraph → NamedObject × ℕ → List (ℕ × List ℕ)
stale_slots g o = stale_from g (o.1 + 1) o.0.slots

-- an object's address and its name
abbrev pub named_at : NamedObject × ℕ → ℕ × List ℕ
named_at o = (o.1, o.0.name)

-- what targets the roots have
abbrev pub root_targets : NamedGraph → List (Option (List ℕ))
root_targets g = map (λ r. r.target) g.roots

-- THE LISTS ARE THOSE OF THE GRAPH: the names of all objects by rising address, and the names that no object has, of roots
-- by number and of slots by address
pub record AreListed (g : NamedGraph) (ats : List ℕ) (objects_listed roots_listed slots_listed : List (ℕ × List ℕ)) : Type 0 where
  pub by_address : List (NamedObject × ℕ)
  pub rising : AllPairs (λ o p. o.1 < p.1) by_address
  pub all : (o : NamedObject × ℕ) → Contains by_address o ↔ Contains (zip g.objects ats) o
  pub names : objects_listed ≡ map named_at by_address
  pub roots : roots_listed ≡ stale_from g 0 (root_targets g)
  pub slots : slots_listed ≡ flat_map (stale_slots g) by_address

-- the object of a slot's or a root's name is there
abbrev pub IsNamed : NamedGraph → Option (List ℕ) → Type 0
IsNamed g None = Unit {0}
IsNamed g (Some name) = (o : NamedObject) × Contains g.objects o × (o.name ≡ name)

-- EACH NAME IN A SLOT OR A ROOT is an object's
pub record AllNamed (g : NamedGraph) : Type 0 where
  pub roots : All (IsNamed g) (root_targets g)
  pub slots : All (λ o. All (IsNamed g) o.slots) g.objects

-- WHAT IS RETURNED HOLDS THE GRAPH: its text is that of a file whose heap carries the graph, an image with this text has this heap,
-- and the lists are those of the graph; if no line with a name that no object has is noted, there is no such name
pub record HoldsGraph (g : NamedGraph) (r : Graph) : Type 0 where
  pub ats : List ℕ
  pub file : File
  pub text : r.text.items ≡ file_text file
  pub carries : Carries g ats (heap_of file)
  pub image : (i : Image) → IsTextWithin Wide r.text.items i → i.heap ≡ heap_of file
  pub listed : AreListed g ats (map read_holder r.names.items) (map read_holder r.stale_roots.items) (map read_holder r.stale_slots.items)
  pub noted : r.first_stale ≡ None → AllNamed g

-- THE BYTES HOLD THE GRAPH, in which each name is an object's: they are the text of an image whose heap carries the graph
pub record CarryGraph (g : NamedGraph) (bytes : List ℕ) : Type 0 where
  pub ats : List ℕ
  pub image : Image
  pub text : IsTextWithin Wide bytes image
  pub carries : Carries g ats image.heap
  pub named : AllNamed g
