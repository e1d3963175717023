use Rattle.std.proofs.Common.{◌≡◌, ◌<◌, length, arith, ap, subst, ◌∙◌}
use Rattle.std.proofs.lemmas.Grind.{get_or_default_zero}
use Rattle.g1_work.specs.Ranges.{IsCut}
use Rattle.g1_image.specs.Shapes.{IsMarksBegin, IsMarksCut}
use Rattle.g1_image.proofs.ShapedRanges.{IsMarksCut-more}
use Rattle.g1_image.proofs.starts.marks_cut.Goals as goal

pub cut_regions-requires-clause-count : goal.cut_regions-requires-clause-count
cut_regions-requires-clause-count c = omega (arith, ap length c.regions.ensures.same, c.regions.ensures.draft.region_count, c.regions.ensures.draft.limits.n_most)

pub cut_regions-requires-clause-some : goal.cut_regions-requires-clause-some
cut_regions-requires-clause-some c = c.requires

pub loop-range-init : goal.loop-range-init
loop-range-init c =
    let many : length c.regions.result.now ≡ c.args.draft.now.geometry.n = ap length c.regions.ensures.same ∙ c.regions.ensures.draft.region_count in
    record { cut = subst (λ n. IsCut n c.args.ranges c.in_ok-begins.begins.items) many c.in_ok-begins.ensures; whole = λ j lt. absurd (omega (arith, lt)) }

pub index-requires : goal.index-requires
index-requires c = omega (arith, (c.loop-range.invariant.cut.each c.loop-range.range c.loop-range-test.true).there)

pub index_mut-requires : goal.index_mut-requires
index_mut-requires c = omega (arith, (c.loop-range.invariant.cut.each c.loop-range.range c.loop-range-test.true).there)

pub loop-range-smaller : goal.loop-range-smaller
loop-range-smaller c = omega (arith, c.loop-range-test.true)

pub loop-range-preserved : goal.loop-range-preserved
loop-range-preserved c =
    let h = c.args.draft.now in
    let j = c.loop-range.range in
    let begins = c.loop-range.begins.items in
    let lt : j < length begins = omega (arith, (c.loop-range.invariant.cut.each j c.loop-range-test.true).there) in
    IsMarksCut-more h c.args.ranges j c.marks_begin.result begins c.loop-range-test.true c.loop-range.invariant
    (subst (λ x. IsMarksBegin h x c.marks_begin.result) (c.index.ensures ∙ get_or_default_zero begins j c.index.result.now lt) c.marks_begin.ensures)

pub returns : goal.returns
returns c =
    let all : c.loop-range.range ≡ c.args.ranges = omega (arith, c.loop-range-test.false, c.loop-range.auto.range-end) in
    subst (λ m. IsMarksCut c.args.draft.now c.args.ranges m c.loop-range.begins.items) all c.loop-range.invariant
