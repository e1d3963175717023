use Rattle.std.proofs.Common.{◌*◌, arith, ap, ◌∙◌}
use Rattle.g1_tables.proofs.Counting.{counting_start, counting_end, counting_here, counting_ends, counting_some, counting_step}
use Rattle.g1_tables.proofs.show.count_objects.Goals as goal

pub objects-init : goal.objects-init
objects-init c =
    counting_start c.args.heap.now c.args.region c.start-at.result c.objects_end-end.result (c.start-at.ensures.value ∙ ap (λ g. c.args.region * g.w) c.geometry.ensures.same)
    c.objects_end-end.ensures

pub size_at-at-requires : goal.size_at-at-requires
size_at-at-requires c =
    let n = counting_here c.args.heap.now c.args.region c.objects.at c.objects_end-end.result c.objects.count c.geometry.ensures.valid c.requires c.objects.invariant c.objects-test.true in
    omega (arith, n, c.geometry.ensures.valid.word_count)

pub objects-smaller : goal.objects-smaller
objects-smaller c =
    let some = counting_some c.args.heap.now c.args.region c.objects.at c.objects_end-end.result c.objects.count c.geometry.ensures.valid c.requires c.objects.invariant c.objects-test.true
    c.size_at-at.result c.size_at-at.ensures in
    omega (arith, some, c.objects-test.true)

pub overflow_add-at : goal.overflow_add-at
overflow_add-at c =
    let n = counting_ends c.args.heap.now c.args.region c.objects.at c.objects_end-end.result c.objects.count c.geometry.ensures.valid c.requires c.objects.invariant c.objects-test.true
    c.size_at-at.result c.size_at-at.ensures in
    omega (arith, n, c.geometry.ensures.valid.limits.words_most)

pub overflow_add-count : goal.overflow_add-count
overflow_add-count c =
    let n = counting_here c.args.heap.now c.args.region c.objects.at c.objects_end-end.result c.objects.count c.geometry.ensures.valid c.requires c.objects.invariant c.objects-test.true in
    omega (arith, n, c.objects.invariant.low, c.geometry.ensures.valid.limits.words_most)

pub objects-preserved : goal.objects-preserved
objects-preserved c =
    counting_step c.args.heap.now c.args.region c.objects.at c.objects_end-end.result c.objects.count c.geometry.ensures.valid c.requires c.objects.invariant c.objects-test.true
    c.size_at-at.result c.size_at-at.ensures

pub returns : goal.returns
returns c = counting_end c.args.heap.now c.args.region c.objects.at c.objects_end-end.result c.objects.count c.objects.invariant (omega (arith, c.objects-test.false))
