-- Bytes are an image's text or have a fault.
use Rattle.std.proofs.Common.{◌≡◌, ◌<◌, ◌*◌, ℕ, ◌⊎◌, inl, inr, Bool, true, false, List, [], length, slice_index, slice_index_or, arith, refl, sym, ap, ◌∙◌}
use Rattle.std.specs.Prelude.{Some, None, IfSome, nat_lt, if◌then◌else◌}
use Rattle.std.proofs.lemmas.Bool.{cases_lt, le-ltb}
use Rattle.std.proofs.lemmas.List.{length-map}
use Rattle.std.proofs.lemmas.Grind.{get_or_default_zero}
use Rattle.g1_words.specs.Heap.{Heap}
use Rattle.g1_words.specs.Valid.{IsShaped}
use Rattle.g1_words.proofs.Accepted.{in_bounds}
use Rattle.g1_words.specs.declared.fault.Fault.{Fault}
use Rattle.g1_words.specs.declared.fault.Fault.TheVariants as fault
use Rattle.g1_words.specs.declared.fault.Place.TheVariants as place
use Rattle.g1_words.specs.declared.fault.Stand.{Stand}
use Rattle.g1_words.specs.declared.fault.Stand.TheVariants as stand
use Rattle.g1_words.specs.declared.limits.Limits.{Limits}
use Rattle.g1_image.specs.declared.cursor.Heading.{Heading}
use Rattle.g1_image.specs.Text.{File, Entry, Version, file_text, words_of, table_words}
use Rattle.g1_image.specs.Reading.{IsBytes}
use Rattle.g1_image.specs.Image.{Image, IsTextWithin, heap_of, all_words, region_of_entry}
use Rattle.g1_image.specs.Draft.{IsDraft}
use Rattle.g1_image.specs.Plain.{plain_file, PlainIs}
use Rattle.g1_image.specs.Faults.{FileFits, FileFault, FaultWithin, AreKnown, TableFault, IsGoodHeap, HeapFault, CardFault}
use Rattle.g1_image.specs.Faults.{entry, IsKnownKind, HasKnownFlags, IsGoodRoot, IsGoodSlot, IsGoodLogged, LogIsGood, IsGoodSet, SetsAreGood}
use Rattle.g1_image.proofs.Drafts.{length-laid, bounded_laid}
use Rattle.g1_image.proofs.Assembled.{is_image, can_tell, file_again}
use Rattle.g1_image.proofs.NoFault.{IsGoodFile}
use Rattle.g1_image.proofs.Stages.{of_table, of_heap, file_fault}
use Rattle.g1_image.proofs.Decided.{Decided, decided_le, decided_eq, decided_both, decided_either, first_breach}
use Rattle.g1_image.proofs.DecidedShapes.{decided_shaped}
use Rattle.g1_image.proofs.DecidedReferences.{decided_reference, decided_good_slot}
use Rattle.g1_image.proofs.DecidedCards.{decided_logged, decided_set}
use Rattle.g1_image.proofs.ToldFiles.{AnyFault, told_file}

-- the flags of a region have a meaning or not
decided_flags : (es : List Entry) (r : ℕ) → Decided (HasKnownFlags es r)
decided_flags es r =
    let e : Entry = entry es r in
    decided_either (e.flags ≡ 0) ((e.flags ≡ 1) × (e.kind ≡ 1)) (decided_eq e.flags 0) (decided_both (e.flags ≡ 1) (e.kind ≡ 1) (decided_eq e.flags 1) (decided_eq e.kind 1))

-- the kinds and the flags of the first n regions have a meaning, or one has none
told_table : (table : List Entry) (n : ℕ) → AreKnown table n ⊎ ((e : Fault) × TableFault table n e)
told_table table n = elim (first_breach (IsKnownKind table) (λ r. decided_le (entry table r).kind 3) n) [
  | inr b ↦ inr (fault.Kind b.0, b.1)
  | inl kinds ↦ elim (first_breach (HasKnownFlags table) (decided_flags table) n) [
    | inr b ↦ inr (fault.Flags b.0, (kinds, b.1))
    | inl flags ↦ inl (record { kinds = kinds; flags = flags })
  ]
]

-- a heap is good, or it breaks a first rule
told_heap : (h : Heap) → 0 < h.geometry.w → IsGoodHeap h ⊎ ((e : Fault) × HeapFault h e)
told_heap h wide = elim (first_breach (IsShaped h) (decided_shaped h wide) h.geometry.n) [
  | inr b ↦ inr (fault.Shape b.0, b.1)
  | inl shaped ↦ elim (first_breach (IsGoodRoot h) (λ i. decided_reference h shaped (slice_index h.roots i)) (length h.roots)) [
    | inr b ↦ inr (fault.Reference (place.Root b.0), (shaped, b.1))
    | inl roots ↦ elim (first_breach (IsGoodSlot h) (decided_good_slot h shaped) (h.geometry.n * h.geometry.w)) [
      | inr b ↦ inr (fault.Reference (place.Slot b.0), (shaped, roots, b.1))
      | inl slots ↦ inl (record { shaped = shaped; roots = roots; slots = slots })
    ]
  ]
]

-- the log and the remembered sets are good, or one of their cards is the first that isn't
told_cards : (h : Heap) (log : List ℕ) (sets : List (List ℕ)) → (LogIsGood h log × SetsAreGood h sets) ⊎ ((s : Stand) × CardFault h log sets s)
told_cards h log sets = elim (first_breach (IsGoodLogged h log) (decided_logged h log) (length log)) [
  | inr b ↦ inr (stand.Dirty b.0, b.1)
  | inl logged ↦ elim (first_breach (IsGoodSet h sets) (λ r. decided_set h r (slice_index_or sets r [])) h.geometry.n) [
    | inr b ↦ inr (stand.Region b.0, (logged, b.1))
    | inl good ↦ inl (logged, good)
  ]
]

-- a file keeps the rules of every stage, or has a fault
judged : {limits : Limits} (f : File) → FileFits limits f → IsGoodFile f ⊎ ((e : Fault) × FileFault f e)
judged {limits = limits} f fits =
    let wide : 0 < f.w = omega (arith, (in_bounds limits f.w f.k f.n fits.good.sizes).w_least) in
    elim (told_table f.table f.n) [
      | inr x ↦ inr (x.0, of_table f x.0 x.1)
      | inl known ↦ elim (told_heap (heap_of f) wide) [
        | inr x ↦ inr (x.0, of_heap f x.0 known x.1)
        | inl heap ↦ elim (told_cards (heap_of f) f.log f.remembered) [
          | inr x ↦ inr (fault.Card x.0, (known, heap, x.1))
          | inl cards ↦ inl (record { known = known; heap = heap; log = cards.0; remembered = cards.1 })
        ]
      ]
    ]

-- a current region is one of the regions
current_in : (c n : ℕ) → IfSome (if nat_lt c n then Some c else None) (λ r. r < n)
current_in c n = by (nat_lt c n) refl where
  by : (b : Bool) → nat_lt c n ≡ b → IfSome (if b then Some c else None) (λ r. r < n)
  by false e = tt
  by true e = elim (cases_lt c n) [
    | inl lt ↦ lt
    | inr ge ↦ (let clash : true ≡ false = sym e ∙ le-ltb c n ge in cc)
  ]

module _ (limits : Limits) (bytes : List ℕ) (v : Version) (h : Heading) (table : List Entry) (roots log : List ℕ) (remembered : List (List ℕ)) (words : List ℕ)
    (p : PlainIs limits bytes v h table roots log remembered words) where
  -- the heap of a whole file, its regions and references aside
  draft : IsDraft (heap_of (plain_file v h table roots log remembered words))
  draft = record {
    limits = in_bounds limits h.w h.k h.n p.good.sizes;
    word_count = length-laid h.w table words ∙ ap (λ n. n * h.w) p.fits.table.how_many;
    word_fits = λ i d lt. rw (get_or_default_zero (all_words h.w table (words_of (table_words table) words)) i d lt) (bounded_laid h.w table words p.are_bytes i);
    region_count = length-map table region_of_entry ∙ p.fits.table.how_many;
    root_count = omega (arith, p.root_count, p.good.roots);
    current_in = current_in h.current h.n;
  }

  -- the image of a file that keeps all rules
  image_of : IsGoodFile (plain_file v h table roots log remembered words) → (i : Image) × IsTextWithin limits bytes i
  image_of g =
      let f : File = plain_file v h table roots log remembered words in
      let i : Image = record { heap = heap_of f; remembered = remembered; log = log } in (
        i,
        (v, (is_image f p.fits draft g.heap g.known g.log g.remembered, can_tell f p.fits, p.text ∙ ap file_text (sym (file_again _ f p.fits g.heap.shaped g.known))), p.good.sizes),
      )

  -- a whole file is an image's, or its bytes have a fault
  told_plain : ((i : Image) × IsTextWithin limits bytes i) ⊎ AnyFault limits bytes
  told_plain =
      let f : File = plain_file v h table roots log remembered words in
      elim (judged f p.fits) [ inl g ↦ inl (image_of g) | inr x ↦ inr (x.0, file_fault bytes f x.0 p.fits p.text x.1) ]

-- bytes are an image's text or have a fault
pub always_one : (limits : Limits) (bytes : List ℕ) → IsBytes bytes → ((i : Image) × IsTextWithin limits bytes i) ⊎ ((e : Fault) × FaultWithin limits bytes e)
always_one limits bytes b = elim (told_file limits bytes b) [ inr e ↦ inr e | inl p ↦ told_plain _ bytes p.0 p.1 p.2 p.3 p.4 p.5 p.6 p.7 ]
