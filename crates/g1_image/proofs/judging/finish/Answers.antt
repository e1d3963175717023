use Rattle.std.proofs.Common.{◌<◌, ◌^◌, ℕ, List, map, length, inl, inr, refl, sym, ap, subst, ◌∙◌, arith}
use Rattle.std.proofs.lemmas.List.{length-map}
use Rattle.std.specs.Prelude.{Option, All}
use Rattle.std.proofs.lemmas.Result.{err_from_is_err_and}
use Rattle.g1_words.specs.Geometry.{Geometry, IsWithin}
use Rattle.g1_words.specs.Heap.{Heap}
use Rattle.g1_words.specs.declared.region.Region.{Region}
use Rattle.g1_words.specs.declared.limits.Limits.{Limits}
use Rattle.g1_image.specs.Image.{CanTell, heap_of}
use Rattle.g1_image.specs.Faults.{IsGoodHeap, LogIsGood, SetsAreGood}
use Rattle.g1_image.specs.Drafted.{IsDraftOf}
use Rattle.g1_image.proofs.Assembled.{can_tell, card_fault, logs_good, sets_good, made_image, made_text}
use Rattle.g1_image.proofs.judging.finish.Goals as goal
use Rattle.g1_image.proofs.judging.finish.Goals.{In_ok-log}

pub check_cards-requires-clause-log : goal.check_cards-requires-clause-log
check_cards-requires-clause-log c =
    let told = c.requires.text.2 in
    omega (arith, ap length (c.deref.ensures.value ∙ told.log), told.fits.heading.dirty)

pub check_cards-requires-clause-one_each : goal.check_cards-requires-clause-one_each
check_cards-requires-clause-one_each c =
    let told = c.requires.text.2 in
    sym (length-map c.deref-2.result.now (λ s. s.items)) ∙ ap (λ l. length (map (λ s. s.items) l)) c.deref-2.ensures.value ∙ ap length told.remembered
    ∙ told.fits.remembered.how_many ∙ sym (ap (λ h. h.geometry.n) told.heap)

pub check_cards-requires-clause-counts : goal.check_cards-requires-clause-counts
check_cards-requires-clause-counts c =
    let told = c.requires.text.2 in
    subst (λ l. All (λ s. length s < 2 ^ 32) l) (sym (ap (λ l. map (λ s. s.items) l) c.deref-2.ensures.value ∙ told.remembered)) (λ k d lt. (told.fits.remembered.each k d lt).0)

pub returns-in_err-log-clause-err : goal.returns-in_err-log-clause-err
returns-in_err-log-clause-err c =
    let left = err_from_is_err_and c.from_residual.result c.from_residual.ensures.1 in
    rw (left.1, left.2) (λ limits bytes told. elim c.in_err-log.ensures.err [
      | inl m ↦ inl m
      | inr h ↦ card_fault bytes told.file c.args.drafted.draft c.deref.result.now (map (λ s. s.items) c.deref-2.result.now) c.in_err-log.field-0.0 h.0 told.fits told.text
          told.known told.heap (c.deref.ensures.value ∙ told.log) (ap (λ l. map (λ s. s.items) l) c.deref-2.ensures.value ∙ told.remembered) c.requires.good h.1 h.2
    ])

-- the heap, the log and the remembered sets of the file are good
checked : (c : In_ok-log) (limits : Limits) (bytes : List ℕ) (told : IsDraftOf limits bytes c.args.drafted) →
    IsGoodHeap (heap_of told.file) × LogIsGood (heap_of told.file) told.file.log × SetsAreGood (heap_of told.file) told.file.remembered
checked c limits bytes told = (
  subst IsGoodHeap told.heap c.requires.good,
  logs_good told.file c.args.drafted.draft c.deref.result.now told.heap (c.deref.ensures.value ∙ told.log) c.in_ok-log.ensures.log.1,
  sets_good told.file c.args.drafted.draft (map (λ s. s.items) c.deref-2.result.now) told.heap
      (ap (λ l. map (λ s. s.items) l) c.deref-2.ensures.value ∙ told.remembered) c.in_ok-log.ensures.sets,
)

abbrev heap_in : Geometry → List ℕ → List Region → List ℕ → Option ℕ → Heap
heap_in g words regions roots current = record { geometry = g; words = words; regions = regions; roots = roots; current = current }

pub invariant_of-heap : goal.invariant_of-heap
invariant_of-heap c =
    let at = (goal.at.invariant_of-heap c).In_ok-log in
    let told = c.requires.text.2 in
    let good = checked at c.requires.text.0 c.requires.text.1 told in
    let h = heap_in c.draft.inside.geometry c.draft.inside.words.items c.draft.inside.regions.items c.draft.inside.roots.items c.draft.inside.current in
    ((made_image told.file h told.file.remembered told.file.log told.fits c.draft.invariant.0 (c.draft.view_is ∙ told.heap) refl refl good.0 told.known good.1 good.2).heap, c.draft.invariant.1)

pub invariant_of-result : goal.invariant_of-result
invariant_of-result c =
    let at = (goal.at.invariant_of-result c).In_ok-log in
    let told = c.requires.text.2 in
    let good = checked at c.requires.text.0 c.requires.text.1 told in
    let h = heap_in c.draft.inside.geometry c.draft.inside.words.items c.draft.inside.regions.items c.draft.inside.roots.items c.draft.inside.current in
    made_image told.file h (map (λ s. s.items) c.args.drafted.remembered.items) c.in_ok-log.log.keys told.fits c.draft.invariant.0 (c.draft.view_is ∙ told.heap) told.remembered
    (c.in_ok-log.ensures.log.0 ∙ c.deref.ensures.value ∙ told.log) good.0 told.known good.1 good.2

pub returns-clause-ok : goal.returns-clause-ok
returns-clause-ok c = λ limits bytes told.
    let at = (goal.at.returns-clause-ok c).In_ok-log in
    let f = told.file in
    let good = checked at limits bytes told in
    let h = heap_in c.draft.inside.geometry c.draft.inside.words.items c.draft.inside.regions.items c.draft.inside.roots.items c.draft.inside.current in
    let sets = map (λ s. s.items) c.args.drafted.remembered.items in
    let same = c.draft.view_is ∙ told.heap in
    let keys = c.in_ok-log.ensures.log.0 ∙ c.deref.ensures.value ∙ told.log in (
      f.version,
      (
        made_image f h sets c.in_ok-log.log.keys told.fits c.draft.invariant.0 same told.remembered keys good.0 told.known good.1 good.2,
        subst (λ x. CanTell f.version x) (sym same) (can_tell f told.fits),
        told.text ∙ made_text f h sets c.in_ok-log.log.keys told.fits same told.remembered keys good.0 told.known,
      ),
      subst (λ x. IsWithin limits x.geometry.w x.geometry.k x.geometry.n) (sym same) told.fits.good.sizes,
    )
