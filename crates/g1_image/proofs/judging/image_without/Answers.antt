use Rattle.std.proofs.Common.{◌≡◌, ◌<◌, ◌≤◌, ◌+◌, ◌^◌, ℕ, List, map, length, inl, inr, sym, ap, subst, ◌∙◌, arith, slice_index}
use Rattle.std.proofs.lemmas.List.{length-map}
use Rattle.std.specs.Prelude.{All}
use Rattle.std.proofs.lemmas.Result.{err_from_is_err_and}
use Rattle.g1_words.specs.Heap.{Heap, region, start}
use Rattle.g1_words.specs.Valid.{IsShaped, AllShaped, MayBePinned, IsValid}
use Rattle.g1_image.specs.Image.{Image, IsImage, heap_of}
use Rattle.g1_image.specs.Draft.{ShapedBelow}
use Rattle.g1_image.specs.Drafted.{IsDraftOf}
use Rattle.g1_image.specs.Faults.{IsFirstBreach, CardFault}
use Rattle.g1_image.specs.Stale.{IsStaleRoot, IsStaleSlot, Lists, FaultWithout, without}
use Rattle.g1_image.proofs.Assembled.{is_log, logs_good, sets_good, pins_known, zeros}
use Rattle.g1_image.proofs.StaleImages.{image_kept}
use Rattle.g1_image.proofs.Told.{table_without}
use Rattle.g1_image.proofs.judging.image_without.Goals as goal
use Rattle.g1_image.proofs.judging.image_without.Goals.{After-heap_without-heap}

pub returns-in_err-drafted-clause-err : goal.returns-in_err-drafted-clause-err
returns-in_err-drafted-clause-err c =
    let left = err_from_is_err_and c.from_residual.result c.from_residual.ensures.1 in
    rw (left.1, left.2) (λ bytes laid. table_without c.args.limits bytes c.args.front.table.items c.args.front.heading.n c.in_err-drafted.field-0.0 c.in_err-drafted.ensures.stage
    (c.in_err-drafted.ensures.err bytes laid))

pub returns-in_err-marks-clause-err : goal.returns-in_err-marks-clause-err
returns-in_err-marks-clause-err c =
    let left = err_from_is_err_and c.from_residual-in_err-marks.result c.from_residual-in_err-marks.ensures.1 in
    rw (left.1, left.2) (λ bytes laid.
    let is = c.in_ok-drafted.ensures.ok bytes laid in
    elim c.in_err-marks.ensures.err [
      | inl m ↦ inl m
      | inr s ↦ inr (subst (FaultWithout c.args.limits bytes) (sym s.1) (is.file, is.fits, is.text, (is.known, subst (λ h. IsFirstBreach (IsShaped h) h.geometry.n s.0) is.heap s.2)))
    ])

pub check_cards-requires-clause-log : goal.check_cards-requires-clause-log
check_cards-requires-clause-log c =
    let told = c.in_ok-drafted.ensures.ok c.requires.text.0 c.requires.text.1 in
    omega (arith, ap length (c.deref.ensures.value ∙ told.log), told.fits.heading.dirty)

pub check_cards-requires-clause-one_each : goal.check_cards-requires-clause-one_each
check_cards-requires-clause-one_each c =
    let told = c.in_ok-drafted.ensures.ok c.requires.text.0 c.requires.text.1 in
    sym (length-map c.deref-2.result.now (λ s. s.items)) ∙ ap (λ l. length (map (λ s. s.items) l)) c.deref-2.ensures.value ∙ ap length told.remembered
    ∙ told.fits.remembered.how_many ∙ sym (ap (λ h. h.geometry.n) told.heap)

pub check_cards-requires-clause-counts : goal.check_cards-requires-clause-counts
check_cards-requires-clause-counts c =
    let told = c.in_ok-drafted.ensures.ok c.requires.text.0 c.requires.text.1 in
    subst (λ l. All (λ s. length s < 2 ^ 32) l) (sym (ap (λ l. map (λ s. s.items) l) c.deref-2.ensures.value ∙ told.remembered)) (λ k d lt. (told.fits.remembered.each k d lt).0)

pub returns-in_err-log-clause-err : goal.returns-in_err-log-clause-err
returns-in_err-log-clause-err c =
    let left = err_from_is_err_and c.from_residual-in_err-log.result c.from_residual-in_err-log.ensures.1 in
    rw (left.1, left.2) (λ bytes laid.
    let is = c.in_ok-drafted.ensures.ok bytes laid in
    let log = c.deref.result.now in
    let sets : List (List ℕ) = map (λ s. s.items) c.deref-2.result.now in
    elim c.in_err-log.ensures.err [
      | inl m ↦ inl m
      | inr x ↦
          let shaped : AllShaped (heap_of is.file) = subst (λ h. ShapedBelow h h.geometry.n) is.heap c.in_ok-marks.ensures.ok.shaped in
          let first : CardFault (heap_of is.file) is.file.log is.file.remembered x.0 = subst (λ l. CardFault (heap_of is.file) is.file.log l x.0)
          (ap (λ l. map (λ s. s.items) l) c.deref-2.ensures.value ∙ is.remembered)
          (subst (λ l. CardFault (heap_of is.file) l sets x.0) (c.deref.ensures.value ∙ is.log) (subst (λ y. CardFault y log sets x.0) is.heap x.2)) in
          inr (subst (FaultWithout c.args.limits bytes) (sym x.1) (is.file, is.fits, is.text, is.known, shaped, first))
    ])

pub heap_without-heap-requires-clause-pins : goal.heap_without-heap-requires-clause-pins
heap_without-heap-requires-clause-pins c =
    let told = c.in_ok-drafted.ensures.ok c.requires.text.0 c.requires.text.1 in
    subst (λ h. (r : ℕ) → r < h.geometry.n → MayBePinned h r) (sym told.heap) (pins_known told.file told.known)

pub heap_without-heap-requires-clause-zeros : goal.heap_without-heap-requires-clause-zeros
heap_without-heap-requires-clause-zeros c =
    let told = c.in_ok-drafted.ensures.ok c.requires.text.0 c.requires.text.1 in
    let shaped : AllShaped (heap_of told.file) = subst (λ h. ShapedBelow h h.geometry.n) told.heap c.in_ok-marks.ensures.ok.shaped in
    subst (λ h. (r i : ℕ) → r < h.geometry.n → (region h r).top ≤ i → i < h.geometry.w → slice_index h.words (start h r + i) ≡ 0) (sym told.heap) (zeros _ told.file told.fits shaped)

-- the image that is made
abbrev made : After-heap_without-heap → Image
made c = record {
  heap = c.heap_without-heap.result;
  remembered = map (λ s. s.items) c.in_ok-drafted.drafted.remembered.items;
  log = c.in_ok-log.log.keys;
}

-- it is the file's, with null in the stale words
abbrev told_image : (c : After-heap_without-heap) (bytes : List ℕ) → IsDraftOf c.args.limits bytes c.in_ok-drafted.drafted → Image
told_image c bytes is = record {
  heap = without (heap_of is.file) c.in_ok-stale.stale.roots.items c.in_ok-stale.stale.slots.items;
  remembered = is.file.remembered;
  log = is.file.log;
}

is_told : (c : After-heap_without-heap) (bytes : List ℕ) (is : IsDraftOf c.args.limits bytes c.in_ok-drafted.drafted) → made c ≡ told_image c bytes is
is_told c bytes is = λ t. record {
  heap = (c.heap_without-heap.ensures.same ∙ ap (λ x. without x c.in_ok-stale.stale.roots.items c.in_ok-stale.stale.slots.items) is.heap) t;
  remembered = is.remembered t;
  log = (c.in_ok-log.ensures.log.0 ∙ c.deref.ensures.value ∙ is.log) t;
}

pub invariant_of-image : goal.invariant_of-image
invariant_of-image c =
    let at = (goal.at.invariant_of-image c).After-heap_without-heap in
    let told = c.in_ok-drafted.ensures.ok c.requires.text.0 c.requires.text.1 in
    let f = told.file in
    let h : Heap = heap_of f in
    let draft = c.in_ok-drafted.drafted.draft in
    let roots = c.in_ok-stale.stale.roots.items in
    let slots = c.in_ok-stale.stale.slots.items in
    let valid : IsValid (without h roots slots) = subst IsValid (c.heap_without-heap.ensures.same ∙ ap (λ x. without x roots slots) told.heap) c.heap_without-heap.ensures.valid in
    let sets = sets_good f draft (map (λ s. s.items) c.deref-2.result.now) told.heap (ap (λ l. map (λ s. s.items) l) c.deref-2.ensures.value ∙ told.remembered) c.in_ok-log.ensures.sets in
    let logged = logs_good f draft c.deref.result.now told.heap (c.deref.ensures.value ∙ told.log) c.in_ok-log.ensures.log.1 in
    subst IsImage (sym (is_told at c.requires.text.0 told))
    (image_kept h roots slots f.remembered f.log valid told.fits.remembered.how_many sets (is_log h f.log told.fits.heading.dirty logged))

pub returns-clause-ok : goal.returns-clause-ok
returns-clause-ok c = λ bytes laid.
    let at = (goal.at.returns-clause-ok c).After-heap_without-heap in
    let is = c.in_ok-drafted.ensures.ok bytes laid in
    record {
      file = is.file;
      fits = is.fits;
      text = is.text;
      known = is.known;
      stale_roots = subst (λ h. Lists (IsStaleRoot h) c.in_ok-stale.stale.roots.items) is.heap c.in_ok-stale.ensures.roots;
      stale_slots = subst (λ h. Lists (IsStaleSlot h) c.in_ok-stale.stale.slots.items) is.heap c.in_ok-stale.ensures.slots;
      image = is_told at bytes is;
    }
