use Rattle.std.proofs.Common.{◌≡◌, ◌<◌, ◌∙◌, ap, arith}
use Rattle.std.proofs.lemmas.List.{get_or_default}
use Rattle.g1_words.specs.Heap.{region}
use Rattle.g1_copy.specs.Fates.{fate_at, region_by_fate}
use Rattle.g1_copy.specs.declared.fates.Fate.TheVariants.{Freed, Kept}
use Rattle.g1_copy.proofs.PreparedRegions.{regions_all, regions_more, run_made, runs_small}
use Rattle.g1_copy.proofs.preparing.new_regions.Goals as goal

pub new_region-requires-clause-run : goal.new_region-requires-clause-run
new_region-requires-clause-run c =
    let h = c.args.heap.now in
    let p = c.args.plan.now in
    let n : c.regions-count.result ≡ h.geometry.n = c.regions-count.ensures.value ∙ ap (λ g. g.n) c.geometry.ensures.same in
    let lt : c.loop-r.r < h.geometry.n = omega (arith, c.loop-r-test.true, n) in
    λ t e. run_made h p.set p c.geometry.ensures.valid c.requires.plan c.runs.result.now c.runs.ensures c.args.fates.now c.requires.fates.0 c.loop-r.r t c.requires.fates.1 lt
    (get_or_default c.args.fates.now c.loop-r.r Kept Freed (omega (arith, lt, c.requires.fates.1.one_each)) ∙ e)

pub new_region-requires-clause-small : goal.new_region-requires-clause-small
new_region-requires-clause-small c = runs_small c.args.heap.now c.args.plan.now.set c.args.plan.now c.geometry.ensures.valid c.requires.plan c.runs.result.now c.runs.ensures

pub loop-r-preserved : goal.loop-r-preserved
loop-r-preserved c = λ u.
    let h = c.args.heap.now in
    let p = c.args.plan.now in
    let r = c.loop-r.r in
    let fates = c.args.fates.now in
    let n : c.regions-count.result ≡ h.geometry.n = c.regions-count.ensures.value ∙ ap (λ g. g.n) c.geometry.ensures.same in
    let lt : r < h.geometry.n = omega (arith, c.loop-r-test.true, n) in
    let fate = get_or_default fates r Freed Kept (omega (arith, lt, c.requires.fates.1.one_each)) in
    c.in_ok-push.ensures.items
    ∙ regions_more (λ r. region_by_fate p.runs u (fate_at fates r) (region h r)) h.geometry.n r c.loop-r.regions.items c.new_region.result lt (c.loop-r.invariant u)
    (c.new_region.ensures u ∙ (λ q. region_by_fate (c.runs.ensures q) u (fate q) (c.region.ensures q)))

pub returns : goal.returns
returns c = λ u.
    let h = c.args.heap.now in
    let n : c.regions-count.result ≡ h.geometry.n = c.regions-count.ensures.value ∙ ap (λ g. g.n) c.geometry.ensures.same in
    regions_all (λ r. region_by_fate c.args.plan.now.runs u (fate_at c.args.fates.now r) (region h r)) h.geometry.n c.loop-r.r c.loop-r.regions.items
    (omega (arith, c.loop-r-test.false, n)) (c.loop-r.invariant u)

pub loop-r-smaller : goal.loop-r-smaller
loop-r-smaller c = omega (arith, c.loop-r-test.true)
