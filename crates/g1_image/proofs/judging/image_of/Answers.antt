use Rattle.std.proofs.Common.{List, ℕ, inl, inr, subst}
use Rattle.std.proofs.lemmas.Result.{err_from_is_err_and}
use Rattle.g1_words.specs.declared.limits.Limits.{Limits}
use Rattle.g1_image.specs.Image.{IsTextWithin}
use Rattle.g1_image.specs.Front.{IsLaidOut}
use Rattle.g1_image.specs.Drafted.{IsDraftOf}
use Rattle.g1_image.specs.Faults.{MayFailWithin, HeapFault}
use Rattle.g1_image.proofs.Assembled.{heap_fault}
use Rattle.g1_image.proofs.Told.{if_ok, if_err}
use Rattle.g1_image.proofs.judging.image_of.Goals as goal

pub returns-in_err-check_heap-clause-err : goal.returns-in_err-check_heap-clause-err
returns-in_err-check_heap-clause-err c =
    let left = err_from_is_err_and c.from_residual-in_err-check_heap.result c.from_residual-in_err-check_heap.ensures.1 in
    rw (left.1, left.2) (λ bytes told.
    let is = c.in_ok-drafted.ensures.ok bytes told in
    elim c.in_err-check_heap.ensures.err [
      | inl m ↦ inl m
      | inr h ↦ heap_fault bytes is.file c.in_err-check_heap.field-0.0 is.fits is.text is.known (subst (λ x. HeapFault x c.in_err-check_heap.field-0.0) is.heap h)
    ])

pub finish-requires-clause-text : goal.finish-requires-clause-text
finish-requires-clause-text c = (c.args.limits, c.requires.text.0, c.in_ok-drafted.ensures.ok c.requires.text.0 c.requires.text.1)

pub returns-clause-ok : goal.returns-clause-ok
returns-clause-ok c =
    if_ok c.finish.result (λ i. (limits : Limits) (bytes : List ℕ) → IsDraftOf limits bytes c.in_ok-drafted.drafted → IsTextWithin limits bytes i)
    (λ i. (bytes : List ℕ) → IsLaidOut c.args.limits bytes c.args.front c.args.words.items → IsTextWithin c.args.limits bytes i)
    (λ i h bytes told. h c.args.limits bytes (c.in_ok-drafted.ensures.ok bytes told)) c.finish.ensures.ok

pub returns-clause-err : goal.returns-clause-err
returns-clause-err c =
    if_err c.finish.result (λ e. (limits : Limits) (bytes : List ℕ) → IsDraftOf limits bytes c.in_ok-drafted.drafted → MayFailWithin limits bytes e)
    (λ e. (bytes : List ℕ) → IsLaidOut c.args.limits bytes c.args.front c.args.words.items → MayFailWithin c.args.limits bytes e)
    (λ e h bytes told. h c.args.limits bytes (c.in_ok-drafted.ensures.ok bytes told)) c.finish.ensures.err
