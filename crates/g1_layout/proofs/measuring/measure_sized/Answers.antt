use Rattle.std.proofs.Common.{◌≡◌, ◌+◌, ◌-◌, ◌/◌, get_or, ap, subst, sym, ◌∙◌, arith}
use Rattle.g1_words.specs.Heap.{object_at}
use Rattle.g1_words.specs.Layout.{laid_end, next_fit, sizes_of}
use Rattle.g1_layout.proofs.Counted.{Counted-end, Counted-step, one_each, size_read}
use Rattle.g1_layout.proofs.Laying.{Laying, Laying-end, Laying-step, next_fit_most}
use Rattle.g1_layout.proofs.measuring.measure_sized.Goals as goal

pub bounds-sizes-i : goal.bounds-sizes-i
bounds-sizes-i c = let count = one_each c.args.heap.now c.args.survivors.now c.args.sizes.now c.requires.sizes in omega (arith, count, c.loop-i-test.true)

pub loop-i-preserved : goal.loop-i-preserved
loop-i-preserved c =
    let h = c.args.heap.now in
    let l = c.args.survivors.now in
    let i = c.loop-i.i in
    let size = c.from-taken.result in
    let read : size ≡ (object_at h (get_or l c.loop-i.i 0)).size = c.from-taken.ensures ∙ size_read h l c.args.sizes.now c.loop-i.i c.requires.sizes c.loop-i-test.true in
    let most = c.geometry-geometry.ensures.valid.limits.w_most in
    let at : c.next_fit.result ≡ next_fit h.geometry.w c.loop-i.end size = c.next_fit.ensures ∙ ap (λ g. next_fit g.w c.loop-i.end size) c.geometry-geometry.ensures.same in
    record {
      laying = subst (Laying h l (i + 1)) (ap (λ x. x + size) (sym at)) (Laying-step h l i c.loop-i.end size c.requires.lay most c.loop-i.invariant.laying c.loop-i-test.true read);
      counted = Counted-step h l i c.loop-i.words size c.requires.lay most c.loop-i-test.true read c.loop-i.invariant.counted;
    }

pub next_fit-requires : goal.next_fit-requires
next_fit-requires c =
    let read : c.from-taken.result ≡ (object_at c.args.heap.now (get_or c.args.survivors.now c.loop-i.i 0)).size =
    c.from-taken.ensures ∙ size_read c.args.heap.now c.args.survivors.now c.args.sizes.now c.loop-i.i c.requires.sizes c.loop-i-test.true in
    omega (arith, read, c.requires.lay.small c.loop-i.i 0 c.loop-i-test.true)

pub overflow_add-end : goal.overflow_add-end
overflow_add-end c =
    let read : c.from-taken.result ≡ (object_at c.args.heap.now (get_or c.args.survivors.now c.loop-i.i 0)).size =
    c.from-taken.ensures ∙ size_read c.args.heap.now c.args.survivors.now c.args.sizes.now c.loop-i.i c.requires.sizes c.loop-i-test.true in
    omega (arith, read, c.requires.lay.small c.loop-i.i 0 c.loop-i-test.true, next_fit_most c.geometry-geometry.result.w c.loop-i.end c.from-taken.result)

pub overflow_add-words : goal.overflow_add-words
overflow_add-words c =
    let read : c.from-taken.result ≡ (object_at c.args.heap.now (get_or c.args.survivors.now c.loop-i.i 0)).size =
    c.from-taken.ensures ∙ size_read c.args.heap.now c.args.survivors.now c.args.sizes.now c.loop-i.i c.requires.sizes c.loop-i-test.true in
    omega (arith, read, c.requires.lay.small c.loop-i.i 0 c.loop-i-test.true)

pub overflow_sub-region_words : goal.overflow_sub-region_words
overflow_sub-region_words c = omega (arith, c.region_words.ensures.limits.w_least)

pub overflow_add-end-2 : goal.overflow_add-end-2
overflow_add-end-2 c = omega arith

pub returns-clause-need : goal.returns-clause-need
returns-clause-need c =
    let end = Laying-end c.args.heap.now c.args.survivors.now c.loop-i.i c.loop-i.end c.loop-i.invariant.laying (omega (arith, c.loop-i-test.false, c.loop-i.auto.i-end)) in
    c.region_of-need.ensures ∙ (λ t. (end t + (c.region_words.ensures.value t - 1)) / c.geometry-geometry.result.w) ∙ ap (λ g. (laid_end c.args.heap.now.geometry.w 0 (sizes_of c.args.heap.now c.args.survivors.now) + (g.w - 1)) / g.w) c.geometry-geometry.ensures.same

pub returns-clause-words : goal.returns-clause-words
returns-clause-words c = Counted-end c.args.heap.now c.args.survivors.now c.loop-i.i c.loop-i.words c.loop-i.invariant.counted (omega (arith, c.loop-i-test.false, c.loop-i.auto.i-end))
