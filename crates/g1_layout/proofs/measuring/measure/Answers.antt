use Rattle.std.proofs.Common.{◌≡◌, ◌+◌, ◌-◌, ◌/◌, length, take, ap, subst, sym, ◌∙◌, arith}
use Rattle.std.proofs.Math.Seq.{take-length}
use Rattle.std.proofs.lemmas.Grind.{common_steps}
use Rattle.g1_words.specs.Layout.{laid_end, next_fit, sizes_of}
use Rattle.g1_layout.proofs.Counted.{Counted-end, Counted-step}
use Rattle.g1_layout.proofs.Laying.{Laying, Laying-end, Laying-step, next_fit_most}
use Rattle.g1_layout.proofs.measuring.measure.Goals as goal
use Rattle.g1_layout.proofs.measuring.measure.Goals.{then-kept-2, else-kept-2}

pub loop-a-preserved : goal.loop-a-preserved
loop-a-preserved c =
    let h = c.args.heap.now in
    let l = c.args.survivors.now in
    let i = c.loop-a.a-index in
    let size = c.size_at-size.result in
    let most = c.geometry-geometry.ensures.valid.limits.w_most in
    let at : c.next_fit.result ≡ next_fit h.geometry.w c.loop-a.end size = c.next_fit.ensures ∙ ap (λ g. next_fit g.w c.loop-a.end size) c.geometry-geometry.ensures.same in
    record {
      laying = subst (Laying h l (i + 1)) (ap (λ x. x + size) (sym at)) (Laying-step h l i c.loop-a.end size c.requires most c.loop-a.invariant.laying c.loop-a-test.true c.size_at-size.ensures);
      counted = Counted-step h l i c.loop-a.words size c.requires most c.loop-a-test.true c.size_at-size.ensures c.loop-a.invariant.counted;
      sized = grind (arith, common_steps);
    }

pub returns-clause-sizes : goal.returns-clause-sizes
returns-clause-sizes c =
    let h = c.args.heap.now in
    let l = c.args.survivors.now in
    let all : c.loop-a.a-index ≡ length l = omega (arith, c.loop-a-test.false, c.loop-a.auto.a-index-end) in
    elim c.if-kept-2.branch [
      | then-kept-2 w ↦ rw w.result-is (c.loop-a.invariant.sized w.if-kept-2.true ∙ ap (λ n. sizes_of h (take n l)) all ∙ ap (sizes_of h) (take-length l))
      | else-kept-2 w ↦ rw w.result-is tt
    ]

pub size_at-size-requires : goal.size_at-size-requires
size_at-size-requires c = c.requires.in_words c.loop-a.a-index 0 c.loop-a-test.true

pub next_fit-requires : goal.next_fit-requires
next_fit-requires c = omega (arith, c.requires.small c.loop-a.a-index 0 c.loop-a-test.true)

pub overflow_add-end : goal.overflow_add-end
overflow_add-end c = omega (arith, c.requires.small c.loop-a.a-index 0 c.loop-a-test.true, next_fit_most c.geometry-geometry.result.w c.loop-a.end c.size_at-size.result)

pub overflow_add-words : goal.overflow_add-words
overflow_add-words c = omega (arith, c.requires.small c.loop-a.a-index 0 c.loop-a-test.true)

pub overflow_cast-size : goal.overflow_cast-size
overflow_cast-size c = omega (arith, c.requires.small c.loop-a.a-index 0 c.loop-a-test.true)

pub overflow_sub-region_words : goal.overflow_sub-region_words
overflow_sub-region_words c = omega (arith, c.region_words.ensures.limits.w_least)

pub overflow_add-end-2 : goal.overflow_add-end-2
overflow_add-end-2 c = omega arith

pub returns-clause-need : goal.returns-clause-need
returns-clause-need c =
    let end = Laying-end c.args.heap.now c.args.survivors.now c.loop-a.a-index c.loop-a.end c.loop-a.invariant.laying (omega (arith, c.loop-a-test.false, c.loop-a.auto.a-index-end)) in
    c.region_of.ensures ∙ (λ t. (end t + (c.region_words.ensures.value t - 1)) / c.geometry-geometry.result.w) ∙ ap (λ g. (laid_end c.args.heap.now.geometry.w 0 (sizes_of c.args.heap.now c.args.survivors.now) + (g.w - 1)) / g.w) c.geometry-geometry.ensures.same

pub returns-clause-words : goal.returns-clause-words
returns-clause-words c = Counted-end c.args.heap.now c.args.survivors.now c.loop-a.a-index c.loop-a.words c.loop-a.invariant.counted (omega (arith, c.loop-a-test.false, c.loop-a.auto.a-index-end))
