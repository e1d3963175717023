use Rattle.std.proofs.Common.{◌≡◌, ◌*◌, ◌%◌, arith, ap, subst, ◌∙◌}
use Rattle.g1_image.proofs.ShapedRanges.{zero_begins, none_between}
use Rattle.g1_words.specs.Heap.{start}
use Rattle.g1_image.proofs.starts.marks_begin.Goals as goal

pub returns : goal.returns
returns c =
    let begin = c.loop-geometry.begin in
    let place : c.start.result ≡ start c.args.draft.now begin = c.start.ensures.value ∙ ap (λ g. begin * g.w) c.geometry-geometry.ensures.same in
    record { order = c.loop-geometry.invariant.0; whole = subst (λ x. x % 64 ≡ 0) place c.loop-geometry-test.false; last = c.loop-geometry.invariant.1 }

pub loop-geometry-init : goal.loop-geometry-init
loop-geometry-init c = (omega arith, λ q gt le. absurd (omega (arith, gt, le)))

pub overflow_sub-begin : goal.overflow_sub-begin
overflow_sub-begin c = zero_begins c.loop-geometry.begin c.geometry-geometry.result.w c.start.result c.start.ensures.value c.loop-geometry-test.true

pub loop-geometry-smaller : goal.loop-geometry-smaller
loop-geometry-smaller c =
    omega (arith, zero_begins c.loop-geometry.begin c.geometry-geometry.result.w c.start.result c.start.ensures.value c.loop-geometry-test.true)

pub loop-geometry-preserved : goal.loop-geometry-preserved
loop-geometry-preserved c =
    let begin = c.loop-geometry.begin in
    let place : c.start.result ≡ start c.args.draft.now begin = c.start.ensures.value ∙ ap (λ g. begin * g.w) c.geometry-geometry.ensures.same in (
      omega (arith, c.loop-geometry.invariant.0),
      none_between c.args.draft.now c.args.region begin c.start.result place c.loop-geometry-test.true c.loop-geometry.invariant.1,
    )
