-- An image's text has no fault.
use Rattle.std.proofs.Common.{◌≡◌, ◌≤◌, ◌<◌, ℕ, zero, suc, inl, inr, Bool, true, false, List, [], ◌∷◌, length, slice_index_or, map, arith, refl, sym, ap, subst}
use Rattle.std.specs.Prelude.{IsTrue}
use Rattle.g1_words.specs.Heap.{Heap, free_region}
use Rattle.g1_words.specs.Valid.{IsValid}
use Rattle.g1_words.specs.declared.region.Region.{Region}
use Rattle.g1_words.specs.declared.region.Kind.{Kind}
use Rattle.g1_words.specs.declared.region.Kind.TheVariants.{Free, Ordinary, HumongousFirst, Continuation}
use Rattle.g1_words.specs.declared.fault.Fault.{Fault}
use Rattle.g1_words.specs.declared.fault.Stand.{Stand}
use Rattle.g1_words.specs.declared.fault.Stand.TheVariants as stand
use Rattle.g1_words.specs.declared.limits.Limits.{Limits}
use Rattle.g1_image.specs.Text.{File, Version}
use Rattle.g1_words.specs.Kind.{kind_number}
use Rattle.g1_image.specs.Image.{Image, IsImage, IsLog, IsTextWithin, heap_of, file_of, flags_of, entry_of}
use Rattle.g1_image.specs.Faults.{FileFault, FaultWithin, IsKnownKind, HasKnownFlags, AreKnown, IsGoodRoot, IsGoodSlot, IsGoodHeap, IsGoodLogged, LogIsGood, IsGoodSet, SetsAreGood, CardFault}
use Rattle.g1_image.proofs.FileOf.{file_fits, heap_of_file}
use Rattle.g1_image.proofs.Stages.{stage_of}
use Rattle.g1_image.proofs.OneFault.{no_table_fault, no_heap_fault}
use Rattle.g1_image.proofs.OneVerdict.{fault_of_whole}

-- a file that keeps the rules of every stage
pub record IsGoodFile (f : File) : Type 0 where
  pub known : AreKnown f.table f.n
  pub heap : IsGoodHeap (heap_of f)
  pub log : LogIsGood (heap_of f) f.log
  pub remembered : SetsAreGood (heap_of f) f.remembered

-- good cards have no fault
no_card_fault : (h : Heap) (log : List ℕ) (sets : List (List ℕ)) (s : Stand) → LogIsGood h log → SetsAreGood h sets → CardFault h log sets s → ⊥
no_card_fault h log sets (stand.Dirty i) logged good x = x.breach (logged i x.within)
no_card_fault h log sets (stand.Region r) logged good x = x.1.breach (good r x.1.within)

-- a file that keeps all rules has no fault
pub good_file : (f : File) (e : Fault) → IsGoodFile f → FileFault f e → ⊥
good_file f e g x = elim (stage_of f e x) [
  | inl t ↦ no_table_fault f.table f.n e g.known t
  | inr (inl h) ↦ no_heap_fault (heap_of f) e g.heap h.1
  | inr (inr c) ↦ no_card_fault (heap_of f) f.log f.remembered c.0 g.log g.remembered c.4
]

-- a kind's number is at most 3
kind_known : (k : Kind) → kind_number k ≤ 3
kind_known Free = omega arith
kind_known Ordinary = omega arith
kind_known HumongousFirst = omega arith
kind_known Continuation = omega arith

-- and so is each in the table of an image's file
table_known : (qs : List Region) (r : ℕ) → IsKnownKind (map entry_of qs) r
table_known [] r = omega arith
table_known (q ∷ qs) zero = kind_known q.kind
table_known (q ∷ qs) (suc r) = table_known qs r

-- the flags of a region that is pinned only where it is ordinary have a meaning
flags_known : (q : Region) → (IsTrue q.pinned → q.kind ≡ Ordinary) → HasKnownFlags (entry_of q ∷ []) 0
flags_known q may = by q.pinned refl where
  by : (b : Bool) → q.pinned ≡ b → HasKnownFlags (entry_of q ∷ []) 0
  by false e = inl (ap flags_of e)
  by true e = inr (ap flags_of e, ap kind_number (may e))

-- and so have those in the table of an image's file
table_flags : (qs : List Region) (r : ℕ) → (IsTrue (slice_index_or qs r free_region).pinned → (slice_index_or qs r free_region).kind ≡ Ordinary) → HasKnownFlags (map entry_of qs) r
table_flags [] r may = inl refl
table_flags (q ∷ qs) zero may = flags_known q may
table_flags (q ∷ qs) (suc r) may = table_flags qs r may

-- the roots of a valid heap are good
roots_good : (h : Heap) → IsValid h → (i : ℕ) → i < length h.roots → IsGoodRoot h i
roots_good h v i lt = v.roots i 0 lt

-- the slots are
slots_good : (h : Heap) → IsValid h → (p : ℕ) → IsGoodSlot h p
slots_good h v p o has slot = v.slots o p has slot

-- a valid heap is good
good_heap : (h : Heap) → IsValid h → IsGoodHeap h
good_heap h v = record { shaped = v.shaped; roots = roots_good h v; slots = λ p lt. slots_good h v p }

-- a log that an image may have is good at each place
log_good : (h : Heap) (log : List ℕ) → IsLog h log → (i : ℕ) → i < length log → IsGoodLogged h log i
log_good h log g i lt = (g.used i 0 lt, λ j le. g.distinct j i 0 le lt)

-- where an image's file tells its heap, the file keeps all rules
file_good : (v : Version) (i : Image) → IsImage i → heap_of (file_of v i) ≡ i.heap → IsGoodFile (file_of v i)
file_good v i g e = record {
  known = record {
    kinds = λ r lt. table_known i.heap.regions r;
    flags = λ r lt. table_flags i.heap.regions r (g.heap.pins r lt);
  };
  heap = subst IsGoodHeap (sym e) (good_heap i.heap g.heap);
  log = λ k lt. subst (λ h. IsGoodLogged h i.log k) (sym e) (log_good i.heap i.log g.log k lt);
  remembered = λ r lt. subst (λ h. IsGoodSet h i.remembered r) (sym e) (g.remembered r lt);
}

-- an image's text has no fault
pub no_fault : (limits : Limits) (bytes : List ℕ) (i : Image) (e : Fault) → IsTextWithin limits bytes i → FaultWithin limits bytes e → ⊥
no_fault limits bytes i e t x =
    let f : File = file_of t.0 i in
    good_file f e (file_good t.0 i t.1.0 (heap_of_file t.0 i t.1.0)) (fault_of_whole bytes f e (file_fits limits t.0 i t.1.0 t.1.1 t.2) t.1.2 x)
