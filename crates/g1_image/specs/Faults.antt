-- The fault of bytes that are no image's text: that of the first stage of reading that finds one.
use Rattle.std.specs.Prelude.{◌≡◌, ◌≢◌, ◌≤◌, ◌<◌, ℕ, ◌*◌, ◌^◌, ◌⊎◌, List, [], ◌++◌, length, slice_index, slice_index_or, All}
use Rattle.g1_words.specs.Geometry.{IsWithin, most_roots}
use Rattle.g1_words.specs.declared.limits.Limits.{Limits}
use Rattle.g1_words.specs.declared.limits.Limits.TheVariants.{Specified}
use Rattle.g1_words.specs.Heap.{Heap}
use Rattle.g1_words.specs.Valid.{IsShaped, AllShaped, IsReference, HasObject, IsSlotOf}
use Rattle.g1_words.specs.declared.object.Object.{Object}
use Rattle.g1_words.specs.declared.fault.Fault.{Fault}
use Rattle.g1_words.specs.declared.fault.Fault.TheVariants as fault
use Rattle.g1_words.specs.declared.fault.Place.TheVariants as place
use Rattle.g1_words.specs.declared.fault.Stand.{Stand}
use Rattle.g1_words.specs.declared.fault.Stand.TheVariants as stand
use Rattle.g1_image.specs.Text.{File, Entry, Version, magic, heading_text, heading_of, file_text, table_words}
use Rattle.g1_image.specs.Reading.{Are, IsU32, IsU64, EndsWithin}
use Rattle.g1_image.specs.Image.{heap_of, IsUsedCard, IsRememberedSet}
use Rattle.g1_image.specs.declared.cursor.Heading.{Heading}
use Rattle.g1_image.specs.declared.cursor.Version.TheVariants.{One, Two}

-- each number of the heading has 32 bits
pub record HeadingFits (h : Heading) : Type 0 where
  pub w : h.w < 2 ^ 32
  pub k : h.k < 2 ^ 32
  pub n : h.n < 2 ^ 32
  pub roots : h.roots < 2 ^ 32
  pub dirty : h.dirty < 2 ^ 32
  pub current : h.current < 2 ^ 32

-- the sizes are within these limits, and the roots and the current region within theirs
pub record IsGoodHeading (limits : Limits) (h : Heading) : Type 0 where
  pub sizes : IsWithin limits h.w h.k h.n
  pub roots : h.roots ≤ most_roots
  pub current : h.current ≤ h.n

-- flags that the version can tell: in version 1 they are 0, in version 2 they have 32 bits
abbrev pub FlagsFit : Version → ℕ → Type 0
FlagsFit One flags = flags ≡ 0
FlagsFit Two flags = flags < 2 ^ 32

-- the numbers of the entry fit
abbrev pub EntryFits : Version → Entry → Type 0
EntryFits v e = (e.kind < 2 ^ 32) × (e.top < 2 ^ 32) × FlagsFit v e.flags

-- the count and the cards of the set have 32 bits
abbrev pub RememberedFits : List ℕ → Type 0
RememberedFits cards = (length cards < 2 ^ 32) × All IsU32 cards

-- every number of the file has the bits that its text gives it, the heading is within these limits, and there are as many as are announced
pub record FileFits (limits : Limits) (f : File) : Type 0 where
  pub heading : HeadingFits (heading_of f)
  pub good : IsGoodHeading limits (heading_of f)
  pub table : Are (EntryFits f.version) f.n f.table
  pub roots : All IsU64 f.roots
  pub log : All IsU32 f.log
  pub remembered : Are RememberedFits f.n f.remembered
  pub words : Are IsU64 (table_words f.table) f.words

-- the first of the numbers below an end of which P doesn't hold
pub record IsFirstBreach (P : ℕ → Type 0) (end at : ℕ) : Type 0 where
  pub within : at < end
  pub breach : P at → ⊥
  pub before : (q : ℕ) → q < at → P q

-- the entry of region r
abbrev pub entry : List Entry → ℕ → Entry
entry es r = slice_index_or es r (record { kind = 0; top = 0; flags = 0 })

-- the region's kind has a meaning: it is one of the four
abbrev pub IsKnownKind : List Entry → ℕ → Type 0
IsKnownKind es r = (entry es r).kind ≤ 3

-- the region's flags have a meaning: an ordinary region may be pinned
abbrev pub HasKnownFlags : List Entry → ℕ → Type 0
HasKnownFlags es r = ((entry es r).flags ≡ 0) ⊎ (((entry es r).flags ≡ 1) × ((entry es r).kind ≡ 1))

-- the kinds of the first n regions have a meaning
abbrev pub AreKnownKinds : List Entry → ℕ → Type 0
AreKnownKinds table n = (r : ℕ) → r < n → IsKnownKind table r

-- the kinds and the flags of the first n regions have a meaning
pub record AreKnown (table : List Entry) (n : ℕ) : Type 0 where
  pub kinds : AreKnownKinds table n
  pub flags : (r : ℕ) → r < n → HasKnownFlags table r

-- the first rule that the table of n regions breaks: kinds are judged first, then flags
abbrev pub TableFault : List Entry → ℕ → Fault → Type 0
TableFault table n (fault.Kind r) = IsFirstBreach (IsKnownKind table) n r
TableFault table n (fault.Flags r) = AreKnownKinds table n × IsFirstBreach (HasKnownFlags table) n r
TableFault _ _ _ = ⊥

-- root i is null or references an object
abbrev pub IsGoodRoot : Heap → ℕ → Type 0
IsGoodRoot h i = IsReference h (slice_index h.roots i)

-- every root is null or references an object
abbrev pub RootsAreGood : Heap → Type 0
RootsAreGood h = (i : ℕ) → i < length h.roots → IsGoodRoot h i

-- if the address is a slot's, the slot is null or references an object
abbrev pub IsGoodSlot : Heap → ℕ → Type 0
IsGoodSlot h p = (o : Object) → HasObject h o → IsSlotOf o p → IsReference h (slice_index h.words p)

-- every slot is null or references an object
abbrev pub SlotsAreGood : Heap → Type 0
SlotsAreGood h = (p : ℕ) → p < h.geometry.n * h.geometry.w → IsGoodSlot h p

-- the regions keep their rules, and the roots and slots are null or reference objects
pub record IsGoodHeap (h : Heap) : Type 0 where
  pub shaped : AllShaped h
  pub roots : RootsAreGood h
  pub slots : SlotsAreGood h

-- the first rule that the heap breaks: regions are judged first, then roots, then slots
abbrev pub HeapFault : Heap → Fault → Type 0
HeapFault h (fault.Shape r) = IsFirstBreach (IsShaped h) h.geometry.n r
HeapFault h (fault.Reference (place.Root i)) = AllShaped h × IsFirstBreach (IsGoodRoot h) (length h.roots) i
HeapFault h (fault.Reference (place.Slot p)) = AllShaped h × RootsAreGood h × IsFirstBreach (IsGoodSlot h) (h.geometry.n * h.geometry.w) p
HeapFault _ _ = ⊥

-- the log's card at this place stands in a used region, and not earlier in the log
abbrev pub IsGoodLogged : Heap → List ℕ → ℕ → Type 0
IsGoodLogged h log i = IsUsedCard h (slice_index log i) × ((j : ℕ) → j < i → slice_index log j ≢ slice_index log i)

-- every card of the log is good
abbrev pub LogIsGood : Heap → List ℕ → Type 0
LogIsGood h log = (i : ℕ) → i < length log → IsGoodLogged h log i

-- region r's remembered set is one that it may have
abbrev pub IsGoodSet : Heap → List (List ℕ) → ℕ → Type 0
IsGoodSet h remembered r = IsRememberedSet h r (slice_index_or remembered r [])

-- every region's remembered set is one that it may have
abbrev pub SetsAreGood : Heap → List (List ℕ) → Type 0
SetsAreGood h remembered = (r : ℕ) → r < h.geometry.n → IsGoodSet h remembered r

-- where the first card stands that breaks a rule: the log is judged first, then the remembered sets
abbrev pub CardFault : Heap → List ℕ → List (List ℕ) → Stand → Type 0
CardFault h log remembered (stand.Dirty i) = IsFirstBreach (IsGoodLogged h log) (length log) i
CardFault h log remembered (stand.Region r) = LogIsGood h log × IsFirstBreach (IsGoodSet h remembered) h.geometry.n r

-- the first rule that a whole file breaks: the table is judged first, then the heap, then the cards
abbrev pub FileFault : File → Fault → Type 0
FileFault f (fault.Kind r) = TableFault f.table f.n (fault.Kind r)
FileFault f (fault.Flags r) = TableFault f.table f.n (fault.Flags r)
FileFault f (fault.Shape r) = AreKnown f.table f.n × HeapFault (heap_of f) (fault.Shape r)
FileFault f (fault.Reference p) = AreKnown f.table f.n × HeapFault (heap_of f) (fault.Reference p)
FileFault f (fault.Card s) = AreKnown f.table f.n × IsGoodHeap (heap_of f) × CardFault (heap_of f) f.log f.remembered s
FileFault _ _ = ⊥

-- THE FAULT of bytes that are to be an image's text within these limits
abbrev pub FaultWithin : Limits → List ℕ → Fault → Type 0
-- each version's magic differs from the first bytes that are there
FaultWithin limits bytes fault.Magic = (v : Version) → (i : ℕ) × (i < 8) × (i < length bytes) × (slice_index bytes i ≢ slice_index (magic v) i)
-- the magic is good as far as it is there, and a heading that is there is within the limits, but no whole file begins the bytes
FaultWithin limits bytes fault.Short =
    ((v : Version) × (rest : List ℕ) × (magic v ≡ bytes ++ rest) × (0 < length rest))
    ⊎ ((v : Version) × (rest : List ℕ) × (bytes ≡ magic v ++ rest) × (length rest < 24))
    ⊎ ((v : Version) × (h : Heading) × (rest : List ℕ) × HeadingFits h × IsGoodHeading limits h × (bytes ≡ magic v ++ (heading_text h ++ rest)) × EndsWithin (FileFits limits) file_text bytes)
FaultWithin limits bytes fault.Geometry = (v : Version) × (h : Heading) × (rest : List ℕ) × HeadingFits h × (bytes ≡ magic v ++ (heading_text h ++ rest)) × (IsGoodHeading limits h → ⊥)
FaultWithin limits bytes fault.Trailing = (f : File) × (rest : List ℕ) × FileFits limits f × (bytes ≡ file_text f ++ rest) × (0 < length rest)
FaultWithin limits bytes e = (f : File) × FileFits limits f × (bytes ≡ file_text f) × FileFault f e

-- what a reader of the bytes may answer: their fault, or that memory is wanted
abbrev pub MayFailWithin : Limits → List ℕ → Fault → Type 0
MayFailWithin limits bytes e = (e ≡ fault.Memory) ⊎ FaultWithin limits bytes e

-- THE FAULT of bytes, within the limits of the specification
abbrev pub FaultOf : List ℕ → Fault → Type 0
FaultOf bytes e = FaultWithin Specified bytes e

-- what a reader of the bytes may answer, within the limits of the specification
abbrev pub MayFail : List ℕ → Fault → Type 0
MayFail bytes e = (e ≡ fault.Memory) ⊎ FaultOf bytes e
