use Rattle.std.proofs.Common.{◌+◌, ◌∙◌, sym, ap, subst, arith}
use Rattle.g1_words.specs.declared.object.Object.{Object}
use Rattle.g1_words.specs.Header.{header}
use Rattle.g1_words.specs.Heap.{Heap, object_at}
use Rattle.g1_explain.specs.Keeping.{ReachesHolder}
use Rattle.g1_explain.proofs.Holder.{step, stop}
use Rattle.g1_explain.proofs.walkable.holder_from.Goals as goal

pub objects-smaller : goal.objects-smaller
objects-smaller c =
    let o : Object = c.objects.object in
    let s = step c.args.heap.now c.words-words.ensures.valid c.args.slot o.at o c.objects.invariant.is c.objects.invariant.row (omega (arith, c.objects-test.true)) in
    omega (arith, s.1, c.header-object-in-objects.ensures.at, c.objects-test.true)

pub objects-preserved : goal.objects-preserved
objects-preserved c =
    let h : Heap = c.args.heap.now in
    let o : Object = c.objects.object in
    let s = step h c.words-words.ensures.valid c.args.slot o.at o c.objects.invariant.is c.objects.invariant.row (omega (arith, c.objects-test.true)) in
    let next = c.header-object-in-objects.ensures in
    record {
      is = next.value ∙ ap (λ ws. header ws (o.at + o.size)) c.words-words.ensures.same ∙ ap (object_at h) (sym next.at);
      row = subst (λ n. ReachesHolder h n c.args.slot) (sym next.at) s.0;
    }

pub returns-clause-there : goal.returns-clause-there
returns-clause-there c =
    let o : Object = c.objects.object in
    (stop c.args.heap.now c.words-words.ensures.valid c.args.slot o.at o c.objects.invariant.is c.objects.invariant.row (omega (arith, c.objects-test.false))).0

pub returns-clause-holds : goal.returns-clause-holds
returns-clause-holds c =
    let o : Object = c.objects.object in
    (stop c.args.heap.now c.words-words.ensures.valid c.args.slot o.at o c.objects.invariant.is c.objects.invariant.row (omega (arith, c.objects-test.false))).1
