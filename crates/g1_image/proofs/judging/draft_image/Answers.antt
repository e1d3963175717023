use Rattle.std.proofs.Common.{◌<◌, ◌*◌, ◌^◌, map, length, inl, inr, refl, sym, ap, subst, ◌∙◌}
use Rattle.std.specs.Prelude.{All}
use Rattle.std.proofs.lemmas.Grind.{get_or_default_zero}
use Rattle.g1_words.specs.Words.{AreLaid}
use Rattle.g1_image.specs.Text.{words_of, table_words}
use Rattle.g1_image.specs.Image.{all_words, region_of_entry}
use Rattle.g1_image.proofs.Drafts.{bounded_laid}
use Rattle.std.proofs.lemmas.Result.{err_from_is_err_and}
use Rattle.g1_image.specs.Plain.{plain_file, heap_of_parts}
use Rattle.g1_image.specs.Faults.{TableFault, AreKnown}
use Rattle.g1_image.proofs.Drafts.{length-laid}
use Rattle.g1_image.proofs.Assembled.{table_fault}
use Rattle.g1_image.proofs.judging.draft_image.Goals as goal

pub draft_heap-requires-clause-good : goal.draft_heap-requires-clause-good
draft_heap-requires-clause-good c = c.requires.text.1.1.good

pub draft_heap-requires-clause-table : goal.draft_heap-requires-clause-table
draft_heap-requires-clause-table c = ap length c.deref.ensures.value ∙ c.requires.text.1.1.fits.table.how_many

pub draft_heap-requires-clause-roots : goal.draft_heap-requires-clause-roots
draft_heap-requires-clause-roots c = c.requires.text.1.1.root_count

pub draft_heap-requires-clause-words : goal.draft_heap-requires-clause-words
draft_heap-requires-clause-words c =
    let f = c.args.front in
    let told = c.requires.text.1 in
    ap length told.2 ∙ length-laid f.heading.w f.table.items told.0 ∙ ap (λ n. n * f.heading.w) told.1.fits.table.how_many

pub returns-in_err-draft-clause-err : goal.returns-in_err-draft-clause-err
returns-in_err-draft-clause-err c =
    let f = c.args.front in
    let left = err_from_is_err_and c.from_residual.result c.from_residual.ensures.1 in
    rw (left.1, left.2) (λ bytes told. elim c.in_err-draft.ensures.err [
      | inl m ↦ inl m
      | inr h ↦ table_fault bytes (plain_file f.version f.heading f.table.items f.roots.items f.log.items (map (λ s. s.items) f.remembered.items)
          told.0) c.in_err-draft.field-0.0 told.1.fits told.1.text
          (subst (λ t. TableFault t f.heading.n c.in_err-draft.field-0.0) c.deref.ensures.value h)
    ])

pub returns-clause-ok : goal.returns-clause-ok
returns-clause-ok c = λ bytes told.
    let f = c.args.front in
    record {
      file = plain_file f.version f.heading f.table.items f.roots.items f.log.items (map (λ s. s.items) f.remembered.items) told.0;
      fits = told.1.fits;
      text = told.1.text;
      known = subst (λ t. AreKnown t f.heading.n) c.deref.ensures.value c.in_ok-draft.ensures.known;
      heap = c.in_ok-draft.ensures.ok ∙ (λ t. heap_of_parts f.heading (c.deref.ensures.value t) f.roots.items (told.2 t));
      log = refl;
      remembered = refl;
    }

pub returns-in_err-draft-clause-stage : goal.returns-in_err-draft-clause-stage
returns-in_err-draft-clause-stage c =
    let f = c.args.front in
    let left = err_from_is_err_and c.from_residual.result c.from_residual.ensures.1 in
    rw (left.1, left.2) (elim c.in_err-draft.ensures.err [
      | inl m ↦ inl m
      | inr h ↦ inr (subst (λ t. TableFault t f.heading.n c.in_err-draft.field-0.0) c.deref.ensures.value h)
    ])

pub draft_heap-requires-clause-fit : goal.draft_heap-requires-clause-fit
draft_heap-requires-clause-fit c =
    let f = c.args.front in
    let told = c.requires.text.1 in
    subst (λ l. All (λ x. x < 2 ^ 64) l) (sym told.2) (λ i d lt. rw (get_or_default_zero (all_words f.heading.w f.table.items (words_of (table_words f.table.items) told.0)) i d lt)
    (bounded_laid f.heading.w f.table.items told.0 told.1.are_bytes i))

pub draft_heap-requires-clause-laid : goal.draft_heap-requires-clause-laid
draft_heap-requires-clause-laid c = subst (λ t. AreLaid c.args.front.heading.w (map region_of_entry t) c.args.words.laid) (sym c.deref.ensures.value) c.requires.laid
