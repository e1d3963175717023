-- The stages in which a whole file is judged: its table, its heap, its cards.
use Rattle.std.proofs.Common.{◌≡◌, ◌⊎◌, ℕ, inl, inr, List, refl}
use Rattle.g1_words.specs.declared.fault.Fault.{Fault}
use Rattle.g1_words.specs.declared.fault.Fault.TheVariants as fault
use Rattle.g1_words.specs.declared.fault.Stand.{Stand}
use Rattle.g1_words.specs.declared.limits.Limits.{Limits}
use Rattle.g1_image.specs.Text.{File, file_text}
use Rattle.g1_image.specs.Image.{heap_of}
use Rattle.g1_image.specs.Faults.{FileFits, FileFault, FaultWithin, AreKnown, TableFault, IsGoodHeap, HeapFault, CardFault}

-- the fault of a whole file's cards
abbrev pub OfCards : File → Fault → Type 0
OfCards f e = (s : Stand) × (e ≡ fault.Card s) × AreKnown f.table f.n × IsGoodHeap (heap_of f) × CardFault (heap_of f) f.log f.remembered s

-- the stage that finds a whole file's fault
abbrev pub Stages : File → Fault → Type 0
Stages f e = TableFault f.table f.n e ⊎ ((AreKnown f.table f.n × HeapFault (heap_of f) e) ⊎ OfCards f e)

-- a whole file's fault is found by one of them
pub stage_of : (f : File) (e : Fault) → FileFault f e → Stages f e
stage_of f (fault.Kind r) x = inl x
stage_of f (fault.Flags r) x = inl x
stage_of f (fault.Shape r) x = inr (inl x)
stage_of f (fault.Reference p) x = inr (inl x)
stage_of f (fault.Card s) x = inr (inr (s, refl, x.0, x.1, x.2))
stage_of f _ x = absurd x

-- the fault of the table is the file's
pub of_table : (f : File) (e : Fault) → TableFault f.table f.n e → FileFault f e
of_table f (fault.Kind r) x = x
of_table f (fault.Flags r) x = x
of_table f _ x = absurd x

-- if the table is known, the fault of the heap is
pub of_heap : (f : File) (e : Fault) → AreKnown f.table f.n → HeapFault (heap_of f) e → FileFault f e
of_heap f (fault.Shape r) known x = (known, x)
of_heap f (fault.Reference p) known x = (known, x)
of_heap f _ known x = absurd x

-- the fault of a whole file is its bytes'
pub file_fault : {limits : Limits} (bytes : List ℕ) (f : File) (e : Fault) → FileFits limits f → bytes ≡ file_text f → FileFault f e → FaultWithin limits bytes e
file_fault bytes f fault.Magic fits text x = absurd x
file_fault bytes f fault.Short fits text x = absurd x
file_fault bytes f fault.Geometry fits text x = absurd x
file_fault bytes f fault.Trailing fits text x = absurd x
file_fault bytes f e fits text x = (f, fits, text, x)
