use Rattle.std.proofs.Common.{◌≡◌, ◌∙◌, ap, arith}
use Rattle.g1_words.specs.declared.object.Object.{Object}
use Rattle.g1_words.specs.Header.{header}
use Rattle.g1_words.specs.Heap.{Heap, object_at}
use Rattle.g1_words.proofs.LaidObjects.{object_laid}
use Rattle.g1_explain.proofs.objects.slots_at.Goals.{else-object-via-then-object+else-object-length, else-object-via-else-object}
use Rattle.g1_explain.proofs.objects.slots_at.Goals as goal

pub returns-else-object-clause-count : goal.returns-else-object-clause-count
returns-else-object-clause-count c = λ there.
    let h : Heap = c.args.heap.now in
    let fits = object_laid h c.words.result.now.laid (object_at h c.args.at) c.words.ensures.valid c.words.ensures.laid there in
    let same : c.header-object.result ≡ object_at h c.args.at = c.header-object.ensures.value ∙ ap (λ ws. header ws c.args.at) c.words-2.ensures.same in
    let size = ap (λ (o : Object). o.size) same in
    let refs = ap (λ (o : Object). o.refs) same in
    let many = c.laid-words.ensures.many in
    elim c.else-object.branch [
      | else-object-via-then-object+else-object-length w ↦ absurd (omega (arith, fits.1, size, many, c.if-at-length.false, w.if-object-length.false))
      | else-object-via-else-object w ↦ absurd (omega (arith, fits.0, size, refs, w.if-object.false))
    ]
