-- A whole file has one fault at most, and none if it keeps all rules.
use Rattle.std.proofs.Common.{◌≡◌, ℕ, ◌*◌, inl, inr, List, length, arith, sym, ap, ◌∙◌}
use Rattle.std.proofs.lemmas.Bool.{cases_lt}
use Rattle.g1_words.specs.Heap.{Heap}
use Rattle.g1_words.specs.Valid.{IsShaped}
use Rattle.g1_words.specs.declared.fault.Fault.{Fault}
use Rattle.g1_words.specs.declared.fault.Fault.TheVariants as fault
use Rattle.g1_words.specs.declared.fault.Place.TheVariants as place
use Rattle.g1_words.specs.declared.fault.Stand.{Stand}
use Rattle.g1_words.specs.declared.fault.Stand.TheVariants as stand
use Rattle.g1_image.specs.Text.{File, Entry}
use Rattle.g1_image.specs.Image.{heap_of}
use Rattle.g1_image.specs.Faults.{FileFault, IsFirstBreach, IsKnownKind, HasKnownFlags, AreKnown, TableFault, IsGoodRoot, IsGoodSlot, IsGoodHeap, HeapFault, IsGoodLogged, IsGoodSet, CardFault}
use Rattle.g1_image.proofs.Stages.{Stages, stage_of}

pub one_breach : (P : ℕ → Type 0) (end a b : ℕ) → IsFirstBreach P end a → IsFirstBreach P end b → a ≡ b
one_breach P end a b x y = elim (cases_lt a b) [
  | inl lt ↦ absurd (x.breach (y.before a lt))
  | inr ge ↦ elim (cases_lt b a) [ inl gt ↦ absurd (y.breach (x.before b gt)) | inr le ↦ omega (arith, ge, le) ]
]

-- a table whose kinds and flags have a meaning breaks no rule
pub no_table_fault : (t : List Entry) (n : ℕ) (e : Fault) → AreKnown t n → TableFault t n e → ⊥
no_table_fault t n (fault.Kind r) g x = x.breach (g.kinds r x.within)
no_table_fault t n (fault.Flags r) g x = x.1.breach (g.flags r x.1.within)
no_table_fault t n _ g x = x

-- a table has one fault at most
one_table_fault : (t : List Entry) (n : ℕ) (e d : Fault) → TableFault t n e → TableFault t n d → e ≡ d
one_table_fault t n (fault.Kind a) (fault.Kind b) x y = ap (λ k. fault.Kind k) (one_breach (IsKnownKind t) n a b x y)
one_table_fault t n (fault.Kind a) (fault.Flags b) x y = absurd (x.breach (y.0 a x.within))
one_table_fault t n (fault.Kind a) _ x y = absurd y
one_table_fault t n (fault.Flags a) (fault.Kind b) x y = absurd (y.breach (x.0 b y.within))
one_table_fault t n (fault.Flags a) (fault.Flags b) x y = ap (λ k. fault.Flags k) (one_breach (HasKnownFlags t) n a b x.1 y.1)
one_table_fault t n (fault.Flags a) _ x y = absurd y
one_table_fault t n _ d x y = absurd x

-- a good heap breaks no rule
pub no_heap_fault : (h : Heap) (e : Fault) → IsGoodHeap h → HeapFault h e → ⊥
no_heap_fault h (fault.Shape r) g x = x.breach (g.shaped r x.within)
no_heap_fault h (fault.Reference (place.Root i)) g x = x.1.breach (g.roots i x.1.within)
no_heap_fault h (fault.Reference (place.Slot p)) g x = x.2.breach (g.slots p x.2.within)
no_heap_fault h _ g x = x

-- a heap has one fault at most
one_heap_fault : (h : Heap) (e d : Fault) → HeapFault h e → HeapFault h d → e ≡ d
one_heap_fault h (fault.Shape a) (fault.Shape b) x y = ap (λ k. fault.Shape k) (one_breach (IsShaped h) h.geometry.n a b x y)
one_heap_fault h (fault.Shape a) (fault.Reference (place.Root b)) x y = absurd (x.breach (y.0 a x.within))
one_heap_fault h (fault.Shape a) (fault.Reference (place.Slot b)) x y = absurd (x.breach (y.0 a x.within))
one_heap_fault h (fault.Shape a) _ x y = absurd y
one_heap_fault h (fault.Reference (place.Root a)) (fault.Shape b) x y = absurd (y.breach (x.0 b y.within))
one_heap_fault h (fault.Reference (place.Root a)) (fault.Reference (place.Root b)) x y = ap (λ k. fault.Reference (place.Root k)) (one_breach (IsGoodRoot h) (length h.roots) a b x.1 y.1)
one_heap_fault h (fault.Reference (place.Root a)) (fault.Reference (place.Slot b)) x y = absurd (x.1.breach (y.1 a x.1.within))
one_heap_fault h (fault.Reference (place.Root a)) _ x y = absurd y
one_heap_fault h (fault.Reference (place.Slot a)) (fault.Shape b) x y = absurd (y.breach (x.0 b y.within))
one_heap_fault h (fault.Reference (place.Slot a)) (fault.Reference (place.Root b)) x y = absurd (y.1.breach (x.1 b y.1.within))
one_heap_fault h (fault.Reference (place.Slot a)) (fault.Reference (place.Slot b)) x y =
    ap (λ k. fault.Reference (place.Slot k)) (one_breach (IsGoodSlot h) (h.geometry.n * h.geometry.w) a b x.2 y.2)
one_heap_fault h (fault.Reference (place.Slot a)) _ x y = absurd y
one_heap_fault h _ d x y = absurd x

-- the cards have one fault at most
one_card_fault : (h : Heap) (log : List ℕ) (sets : List (List ℕ)) (s t : Stand) → CardFault h log sets s → CardFault h log sets t → s ≡ t
one_card_fault h log sets (stand.Dirty a) (stand.Dirty b) x y = ap (λ k. stand.Dirty k) (one_breach (IsGoodLogged h log) (length log) a b x y)
one_card_fault h log sets (stand.Dirty a) (stand.Region b) x y = absurd (x.breach (y.0 a x.within))
one_card_fault h log sets (stand.Region a) (stand.Dirty b) x y = absurd (y.breach (x.0 b y.within))
one_card_fault h log sets (stand.Region a) (stand.Region b) x y = ap (λ k. stand.Region k) (one_breach (IsGoodSet h sets) h.geometry.n a b x.1 y.1)

-- each two stages are one, or exclude each other
one_stage : (f : File) (e d : Fault) → Stages f e → Stages f d → e ≡ d
one_stage f e d (inl x) (inl y) = one_table_fault f.table f.n e d x y
one_stage f e d (inl x) (inr (inl y)) = absurd (no_table_fault f.table f.n e y.0 x)
one_stage f e d (inl x) (inr (inr y)) = absurd (no_table_fault f.table f.n e y.2 x)
one_stage f e d (inr (inl x)) (inl y) = absurd (no_table_fault f.table f.n d x.0 y)
one_stage f e d (inr (inl x)) (inr (inl y)) = one_heap_fault (heap_of f) e d x.1 y.1
one_stage f e d (inr (inl x)) (inr (inr y)) = absurd (no_heap_fault (heap_of f) e y.3 x.1)
one_stage f e d (inr (inr x)) (inl y) = absurd (no_table_fault f.table f.n d x.2 y)
one_stage f e d (inr (inr x)) (inr (inl y)) = absurd (no_heap_fault (heap_of f) d x.3 y.1)
one_stage f e d (inr (inr x)) (inr (inr y)) = x.1 ∙ ap (λ s. fault.Card s) (one_card_fault (heap_of f) f.log f.remembered x.0 y.0 x.4 y.4) ∙ sym y.1

-- a whole file has one fault at most
pub one_file_fault : (f : File) (e d : Fault) → FileFault f e → FileFault f d → e ≡ d
one_file_fault f e d x y = one_stage f e d (stage_of f e x) (stage_of f d y)
