-- Stale words: roots and slots that are not null and reference no object. They are read as null.
use Rattle.std.specs.Prelude.{◌≡◌, ◌<◌, ◌⊎◌, ℕ, List, [], ◌∷◌, ◌++◌, length, set, slice_index, All, AllPairs, Contains, ⊤}
use Rattle.g1_words.specs.Heap.{Heap}
use Rattle.g1_words.specs.Valid.{AllShaped, HasObject, IsReference, IsSlotOf}
use Rattle.g1_words.specs.declared.object.Object.{Object}
use Rattle.g1_words.specs.declared.fault.Fault.{Fault}
use Rattle.g1_words.specs.declared.limits.Limits.{Limits}
use Rattle.g1_words.specs.declared.fault.Fault.TheVariants as fault
use Rattle.g1_image.specs.Text.{File, file_text}
use Rattle.g1_image.specs.Image.{Image, heap_of}
use Rattle.g1_image.specs.Faults.{FileFits, AreKnown, CardFault, FaultWithin}

-- the root of this number is stale, and this is its word
abbrev pub IsStaleRoot : Heap → ℕ → ℕ → Type 0
IsStaleRoot h i x = (i < length h.roots) × (slice_index h.roots i ≡ x) × (IsReference h x → ⊥)

-- the slot at this address is stale, and this is its word
abbrev pub IsStaleSlot : Heap → ℕ → ℕ → Type 0
IsStaleSlot h p x = ((o : Object) × HasObject h o × IsSlotOf o p) × (slice_index h.words p ≡ x) × (IsReference h x → ⊥)

-- a word with its place stands behind those that were found, if it is stale
abbrev pub IsPut : Heap → ℕ → ℕ → List (ℕ × ℕ) → List (ℕ × ℕ) → Type 0
IsPut h at x old new = (IsReference h x × (new ≡ old)) ⊎ ((IsReference h x → ⊥) × (new ≡ old ++ (at, x) ∷ []))

-- of two places with their words, the lower place
abbrev pub HasLowerPlace : ℕ × ℕ → ℕ × ℕ → Type 0
HasLowerPlace a b = a.0 < b.0

-- the list has each place and its word of which P holds, by rising place
pub record Lists (P : ℕ → ℕ → Type 0) (found : List (ℕ × ℕ)) : Type 0 where
  pub sound : All (λ (e : ℕ × ℕ). P e.0 e.1) found
  pub whole : (k x : ℕ) → P k x → Contains found (k, x)
  pub rising : AllPairs HasLowerPlace found

-- the words with null at each of these places
abbrev pub nulled : List (ℕ × ℕ) → List ℕ → List ℕ
nulled [] words = words
nulled (e ∷ found) words = nulled found (set words e.0 0)

-- the heap with null in these roots and slots
abbrev pub without : Heap → List (ℕ × ℕ) → List (ℕ × ℕ) → Heap
without h roots slots = record {
  geometry = h.geometry;
  words = nulled slots h.words;
  regions = h.regions;
  roots = nulled roots h.roots;
  current = h.current;
}

-- the bytes are a file's text, these are the stale words of its heap, and the image is the file's with null in them
pub record IsTextWithout (limits : Limits) (bytes : List ℕ) (i : Image) (roots slots : List (ℕ × ℕ)) : Type 0 where
  pub file : File
  pub fits : FileFits limits file
  pub text : bytes ≡ file_text file
  pub known : AreKnown file.table file.n
  pub stale_roots : Lists (IsStaleRoot (heap_of file)) roots
  pub stale_slots : Lists (IsStaleSlot (heap_of file)) slots
  pub image : i ≡ record { heap = without (heap_of file) roots slots; remembered = file.remembered; log = file.log }

-- a fault that is found before the parts of a whole file are looked at
abbrev pub IsTextFault : Fault → Type 0
IsTextFault fault.Magic = ⊤
IsTextFault fault.Geometry = ⊤
IsTextFault fault.Short = ⊤
IsTextFault fault.Trailing = ⊤
IsTextFault fault.Memory = ⊤
IsTextFault (fault.Device d) = ⊤
IsTextFault _ = ⊥

-- the fault of the bytes of which a stale word is none
abbrev pub FaultWithout : Limits → List ℕ → Fault → Type 0
FaultWithout limits bytes (fault.Reference p) = ⊥
FaultWithout limits bytes (fault.Card s) = (f : File) × FileFits limits f × (bytes ≡ file_text f) × AreKnown f.table f.n × AllShaped (heap_of f) × CardFault (heap_of f) f.log f.remembered s
FaultWithout limits bytes e = FaultWithin limits bytes e
