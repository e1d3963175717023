-- The fault of bytes that are an image's text but for their stale words.
use Rattle.std.proofs.Common.{◌≡◌, ◌<◌, ℕ, ◌+◌, ◌*◌, ◌^◌, inl, inr, List, [], ◌∷◌, length, set, slice_index, arith, refl, sym, ap, subst, ◌∙◌, zero}
use Rattle.std.proofs.Common.{get_or-set_other, get_or-set_same, length-set}
use Rattle.std.specs.Prelude.{Some, None}
use Rattle.std.proofs.lemmas.Bool.{cases_lt, cases_eq}
use Rattle.std.proofs.lemmas.List.{get_or_past}
use Rattle.g1_words.specs.Heap.{Heap, region, start, end}
use Rattle.g1_words.specs.Valid.{AllShaped, IsObject, Tiles, IsFirst, HoldsBy, IsReference, IsShapedBy}
use Rattle.g1_words.specs.declared.object.Object.{Object}
use Rattle.g1_words.specs.declared.region.Kind.{Kind}
use Rattle.g1_words.specs.declared.region.Kind.TheVariants.{Free, Ordinary, HumongousFirst, Continuation}
use Rattle.g1_words.specs.declared.limits.Limits.{Limits}
use Rattle.g1_words.specs.declared.fault.Fault.{Fault}
use Rattle.g1_words.specs.declared.fault.Fault.TheVariants as fault
use Rattle.g1_words.specs.declared.fault.Place.{Place}
use Rattle.g1_words.specs.declared.fault.Place.TheVariants as place
use Rattle.g1_image.specs.Image.{Image, IsImage, heap_of}
use Rattle.g1_image.specs.Faults.{FaultWithin, IsFirstBreach, IsGoodRoot, IsGoodSlot, RootsAreGood}
use Rattle.g1_image.specs.Stale.{IsStaleRoot, IsStaleSlot, IsTextWithout, nulled, without}
use Rattle.g1_image.proofs.DecidedReferences.{decided_reference}
use Rattle.g1_image.proofs.OneFile.{one_file}
use Rattle.g1_image.proofs.Rows.{has_header}
use Rattle.g1_image.proofs.Slots.{ends_within}
use Rattle.g1_image.proofs.StaleWords.{Gathers, gathers_of}
use Rattle.g1heap_cli.specs.Compared.{first_place}
use Rattle.g1heap_cli.specs.SideReasons.{HasOtherFault}
use Rattle.g1_words.proofs.Members.{cons_cases, none_contains}

-- ---- what has null at some places keeps its rules with the words that were there

-- a word that is not null was not made null
unnulled : (found : List (ℕ × ℕ)) (words : List ℕ) (k v : ℕ) → 0 < v → slice_index (nulled found words) k ≡ v → slice_index words k ≡ v
unnulled [] words k v some is = is
unnulled (e ∷ found) words k v some is =
    let set_there : slice_index (set words e.0 0) k ≡ v = unnulled found (set words e.0 0) k v some is in
    elim (cases_eq k e.0) [
      | inl here ↦ elim (cases_lt e.0 (length words)) [
        | inl lt ↦ absurd (let z : slice_index (set words e.0 0) k ≡ 0 = ap (slice_index (set words e.0 0)) here ∙ get_or-set_same words e.0 0 0 lt in omega (arith, z, set_there, some))
        | inr ge ↦ absurd (let z : slice_index (set words e.0 0) k ≡ 0 = get_or_past (set words e.0 0) k 0 (omega (arith, ge, here, length-set words e.0 0)) in omega (arith, z, set_there, some))
      ]
      | inr ne ↦ sym (get_or-set_other words e.0 k 0 0 ne) ∙ set_there
    ]

module _ (h : Heap) (roots slots : List (ℕ × ℕ)) where
  object_back : (o : Object) → IsObject (nulled slots h.words) o → IsObject h.words o
  object_back o is = record {
    header = unnulled slots h.words o.at (o.size * 2 ^ 32 + o.refs) (omega (arith, is.refs_fit)) is.header;
    refs_fit = is.refs_fit;
    size_fits = is.size_fits;
  }

  tiles_back : (from : ℕ) (os : List Object) (to : ℕ) → Tiles (nulled slots h.words) from os to → Tiles h.words from os to
  tiles_back from [] to t = t
  tiles_back from (o ∷ os) to t = (t.0, object_back o t.1, tiles_back (from + o.size) os to t.2)

  first_back : (r : ℕ) (o : Object) → IsFirst (without h roots slots) r o → IsFirst h r o
  first_back r o first = record { kind = first.kind; at = first.at; object = object_back o first.object }

  holds_back : (k : Kind) (r : ℕ) (os : List Object) → HoldsBy k (without h roots slots) r os → HoldsBy k h r os
  holds_back Free r os t = t
  holds_back Ordinary r os t = tiles_back (start h r) os (end h r) t
  holds_back HumongousFirst r os (o, first, one) = (o, first_back r o first, one)
  holds_back Continuation r os t = t

  shaped_back : (k : Kind) (r : ℕ) → IsShapedBy k (without h roots slots) r → IsShapedBy k h r
  shaped_back Free r s = s
  shaped_back Ordinary r s = (s.0, s.1, s.2, holds_back (region h r).kind r s.2 s.3, s.4)
  shaped_back HumongousFirst r s = (s.0, first_back r s.0 s.1, s.2, s.3, s.4)
  shaped_back Continuation r s = (s.0, s.1, first_back s.0 s.1 s.2, s.3, s.4, s.5)

  all_shaped_back : AllShaped (without h roots slots) → AllShaped h
  all_shaped_back shaped r lt = record { by_kind = shaped_back (region h r).kind r (shaped r lt).by_kind; current = (shaped r lt).current }

-- ---- the first stale word

-- the first of a list has the lowest place
lowest : (P : ℕ → ℕ → Type 0) (e : ℕ × ℕ) (rest : List (ℕ × ℕ)) → Gathers P (e ∷ rest) → (k x : ℕ) → k < e.0 → P k x → ⊥
lowest P e rest g k x lt p = elim (cons_cases e rest (k, x) (g.whole k x p)) [
  | inl here ↦ (let same : e.0 ≡ k = ap (λ (p : ℕ × ℕ). p.0) here in omega (arith, same, lt))
  | inr later ↦ (let above : e.0 < k = g.rising.0 (k, x) later in omega (arith, above, lt))
]

module _ (h : Heap) (shaped : AllShaped h) where
  -- the lowest root is the first that is wrong
  first_root : (e : ℕ × ℕ) (rest : List (ℕ × ℕ)) → Gathers (IsStaleRoot h) (e ∷ rest) → IsFirstBreach (IsGoodRoot h) (length h.roots) e.0
  first_root e rest g =
      let s = g.sound e.0 e.1 (zero, omega arith, refl) in
      record {
        within = s.0;
        breach = λ good. s.2 (subst (IsReference h) s.1 good);
        before = λ q lt. elim (decided_reference h shaped (slice_index h.roots q)) [
          | inl good ↦ good
          | inr bad ↦ absurd (lowest (IsStaleRoot h) e rest g q (slice_index h.roots q) lt (omega (arith, lt, s.0), refl, bad))
        ];
      }

  -- and so is the lowest slot
  first_slot : (e : ℕ × ℕ) (rest : List (ℕ × ℕ)) → Gathers (IsStaleSlot h) (e ∷ rest) → IsFirstBreach (IsGoodSlot h) (h.geometry.n * h.geometry.w) e.0
  first_slot e rest g =
      let s = g.sound e.0 e.1 (zero, omega arith, refl) in
      record {
        within = omega (arith, ends_within h shaped s.0.0 s.0.1, (has_header h s.0.0 s.0.1).refs_fit, s.0.2.1);
        breach = λ good. s.2 (subst (IsReference h) s.1 (good s.0.0 s.0.1 s.0.2));
        before = λ q lt o has slot. elim (decided_reference h shaped (slice_index h.words q)) [
          | inl good ↦ good
          | inr bad ↦ absurd (lowest (IsStaleSlot h) e rest g q (slice_index h.words q) lt ((o, has, slot), refl, bad))
        ];
      }

  -- where none is stale, all are good
  good_roots : Gathers (IsStaleRoot h) [] → RootsAreGood h
  good_roots g i lt = elim (decided_reference h shaped (slice_index h.roots i)) [
    | inl good ↦ good
    | inr bad ↦ absurd (none_contains (i, slice_index h.roots i) (g.whole i (slice_index h.roots i) (lt, refl, bad)))
  ]

  good_slot : Gathers (IsStaleSlot h) [] → (p : ℕ) → IsGoodSlot h p
  good_slot g p o has slot = elim (decided_reference h shaped (slice_index h.words p)) [
    | inl good ↦ good
    | inr bad ↦ absurd (none_contains (p, slice_index h.words p) (g.whole p (slice_index h.words p) ((o, has, slot), refl, bad)))
  ]

-- ---- bytes with stale words

module _ (limits : Limits) (bytes : List ℕ) (i : Image) (good : IsImage i) where
  shaped_file : (roots slots : List (ℕ × ℕ)) (t : IsTextWithout limits bytes i roots slots) → AllShaped (heap_of t.file)
  shaped_file roots slots t = all_shaped_back (heap_of t.file) roots slots (subst IsImage t.image good).heap.shaped

  -- the first stale word is the fault of the bytes
  pub first_is_fault : (roots slots : List (ℕ × ℕ)) → IsTextWithout limits bytes i roots slots → (p : Place) → first_place roots slots ≡ Some p → FaultWithin limits bytes (fault.Reference p)
  first_is_fault (e ∷ roots) slots t p is =
      let h = heap_of t.file in
      let shaped = shaped_file (e ∷ roots) slots t in
      subst (λ p. FaultWithin limits bytes (fault.Reference p)) (let same : place.Root e.0 ≡ p = cc in same)
      (t.file, t.fits, t.text, (t.known, (shaped, first_root h shaped e roots (gathers_of (IsStaleRoot h) (e ∷ roots) t.stale_roots))))
  first_is_fault [] (e ∷ slots) t p is =
      let h = heap_of t.file in
      let shaped = shaped_file [] (e ∷ slots) t in
      subst (λ p. FaultWithin limits bytes (fault.Reference p)) (let same : place.Slot e.0 ≡ p = cc in same)
      (t.file, t.fits, t.text, (t.known, (shaped, good_roots h shaped (gathers_of (IsStaleRoot h) [] t.stale_roots), first_slot h shaped e slots (gathers_of (IsStaleSlot h) (e ∷ slots) t.stale_slots))))
  first_is_fault [] [] t p is = absurd (cc)

  -- where no word is stale, their fault is no reference
  pub none_is_fault : (roots slots : List (ℕ × ℕ)) → IsTextWithout limits bytes i roots slots → first_place roots slots ≡ None → (p : Place) → FaultWithin limits bytes (fault.Reference p) → ⊥
  none_is_fault (e ∷ roots) slots t is p x = absurd (cc)
  none_is_fault [] (e ∷ slots) t is p x = absurd (cc)
  none_is_fault [] [] t is (place.Root k) (f, fits, text, (known, (shaped, breach))) =
      let same : f ≡ t.file = one_file {limits = limits} bytes f t.file fits t.fits text t.text in
      let h = heap_of t.file in
      let x = subst (λ f. IsFirstBreach (IsGoodRoot (heap_of f)) (length (heap_of f).roots) k) same breach in
      x.breach (good_roots h (shaped_file [] [] t) (gathers_of (IsStaleRoot h) [] t.stale_roots) k x.within)
  none_is_fault [] [] t is (place.Slot p) (f, fits, text, (known, (shaped, roots, breach))) =
      let same : f ≡ t.file = one_file {limits = limits} bytes f t.file fits t.fits text t.text in
      let h = heap_of t.file in
      let x = subst (λ f. IsFirstBreach (IsGoodSlot (heap_of f)) ((heap_of f).geometry.n * (heap_of f).geometry.w) p) same breach in
      x.breach (good_slot h (shaped_file [] [] t) (gathers_of (IsStaleSlot h) [] t.stale_slots) p)

-- a fault that is no reference stays, if stale words are null
pub other_stays : (limits : Limits) (bytes : List ℕ) (f : Fault) → ((p : Place) → f ≡ fault.Reference p → ⊥) → FaultWithin limits bytes f → HasOtherFault limits bytes
other_stays limits bytes (fault.Reference p) other x = absurd (other p refl)
other_stays limits bytes (fault.Card s) other (f, fits, text, (known, good, card)) = (fault.Card s, (f, fits, text, known, good.shaped, card))
other_stays limits bytes fault.Magic other x = (fault.Magic, x)
other_stays limits bytes fault.Geometry other x = (fault.Geometry, x)
other_stays limits bytes fault.Short other x = (fault.Short, x)
other_stays limits bytes fault.Trailing other x = (fault.Trailing, x)
other_stays limits bytes (fault.Kind r) other x = (fault.Kind r, x)
other_stays limits bytes (fault.Shape r) other x = (fault.Shape r, x)
other_stays limits bytes (fault.Uncovered p) other x = (fault.Uncovered p, x)
other_stays limits bytes (fault.Set r) other x = (fault.Set r, x)
other_stays limits bytes (fault.Room m n) other x = (fault.Room m n, x)
other_stays limits bytes (fault.Settings w) other x = (fault.Settings w, x)
other_stays limits bytes fault.Memory other x = (fault.Memory, x)
other_stays limits bytes (fault.Device d) other x = (fault.Device d, x)
other_stays limits bytes (fault.Line n) other x = (fault.Line n, x)
other_stays limits bytes (fault.Flags r) other x = (fault.Flags r, x)
