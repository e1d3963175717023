-- What lines of objects by name hold when they are read.
use Rattle.std.specs.Prelude.{◌≡◌, ◌≢◌, ◌≤◌, ℕ, Option, Some, None, List, [], ◌∷◌, ◌++◌, ◌+◌, ◌-◌, ◌^◌, length, map, min, All}
use Rattle.std.specs.List.{AllZip, position_from}
use Rattle.std.specs.Str.{bytes_eq}
use Rattle.std.specs.Borrow.{Bor}
use Rattle.g1_words.specs.Geometry.{Geometry, most_roots}
use Rattle.g1_text.specs.declared.named.Lines.{Lines}
use Rattle.g1_text.specs.declared.placing.Entry.{Entry}
use Rattle.g1_text.specs.declared.reading.HeapSizes.{HeapSizes}
use Rattle.g1_text.specs.Reading.{words_in}
use Rattle.g1_text.specs.Graphs.{NamedObject, NamedRoot, NamedGraph, SaysObject, IsTargetName, AreWithinBounds, Shortens, size_of, words_of, target_word, empty_graph}
use Rattle.g1_text.specs.Forms.{Form, Many, IsTarget, IsDataWord}

-- the sizes are these, if there are any
abbrev pub AreSizes : Option HeapSizes → Option Geometry → Type 0
AreSizes None sizes = sizes ≡ None
AreSizes (Some s) sizes = sizes ≡ Some (record { w = s.w; k = s.k; n = s.n })

-- SLOT .. WORD .. [..]: so many targets and data words, with those that `..` stands for
abbrev pub Fills : ℕ → ℕ → Form
Fills slots count words =
    (references values : List (List ℕ)) × Many IsTarget slots references × Many IsDataWord count values × Shortens references values words

-- the word in a root's line, as it was read with the line's number
abbrev pub read_root : ℕ × Bor (List ℕ) → List ℕ
read_root root = root.1.now

-- the number of a root and what holds it, as they were read
abbrev pub read_holder : ℕ × Bor (List ℕ) → ℕ × List ℕ
read_holder holder = (holder.0, holder.1.now)

-- the word that a root's line has
abbrev pub root_word : NamedRoot → List ℕ
root_word r = target_word r.target

-- an object's line was read: its size and its slots are those of the object
pub record IsEntryOf (e : Entry) (o : NamedObject) : Type 0 where
  pub size : e.size ≡ size_of o
  pub slots : e.slots ≡ length o.slots
  pub line : SaysObject o (words_in e.line.now)

-- the number of a root and what holds it, if that was told
abbrev pub holder_of : ℕ → Option (List ℕ) → List (ℕ × List ℕ)
holder_of n None = []
holder_of n (Some holder) = (n, holder) ∷ []

-- the numbers of the roots whose holders were told, from this number on, and the holders
abbrev pub holders_from : ℕ → List NamedRoot → List (ℕ × List ℕ)
holders_from n [] = []
holders_from n (r ∷ roots) = holder_of n r.holder ++ holders_from (n + 1) roots

-- the place of the object with this name
abbrev pub place_of : List ℕ → List NamedObject → Option ℕ
place_of name objects = position_from (λ o. bytes_eq name o.name) 0 objects

-- WHAT WAS READ IS THE GRAPH: no line is lost, and the names are in the order of the objects
pub record HasRead (l : Lines) (g : NamedGraph) : Type 0 where
  pub sizes : AreSizes l.sizes g.sizes
  pub bounds : AreWithinBounds g.sizes
  pub roots : map read_root l.roots.items ≡ map root_word g.roots
  pub targets : All (λ r. IsTargetName r.target) g.roots
  pub few : length g.roots ≤ most_roots
  pub holders : map read_holder l.holders.items ≡ holders_from 0 g.roots
  pub entries : AllZip IsEntryOf l.entries.items g.objects
  pub names : map (λ k. k.now) l.names.keys ≡ map (λ o. o.name) g.objects
  pub words : l.words ≡ min (words_of g) (2 ^ 64 - 1)

-- the lines that were read so far say this: before the heading nothing
abbrev pub IsRead : Lines → Option NamedGraph → Type 0
IsRead l None = (l.heading ≡ 0) × HasRead l (empty_graph None)
IsRead l (Some g) = (l.heading ≢ 0) × HasRead l g
