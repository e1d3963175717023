use Rattle.std.proofs.Common.{◌≡◌, ◌+◌, ◌*◌, get_or, length, sym, ◌∙◌, ap, arith, subst}
use Rattle.g1_copy.specs.Patches.{AreBefore}
use Rattle.g1_copy.proofs.PatchesBefore.{Counted, Counted-step}
use Rattle.g1_copy.proofs.patching.firsts.Goals as goal

pub loop-region-init : goal.loop-region-init
loop-region-init c = record { count = ap length c.in_ok-firsts.ensures.items; each = λ r lt. absurd (omega arith) }

pub loop-region-preserved : goal.loop-region-preserved
loop-region-preserved c =
    let w = c.geometry-geometry.result.w in
    let r = c.loop-region.region in
    let n = c.before-in-loop-region.result in
    let here = subst (λ x. AreBefore c.args.patches.now x n) c.start.ensures.value c.before-in-loop-region.ensures in
    subst (Counted w (r + 1) c.args.patches.now) (sym c.in_ok-push.ensures.items) (Counted-step w r c.args.patches.now c.loop-region.firsts.items n c.loop-region.invariant here)

pub returns : goal.returns
returns c =
    let h = c.args.heap.now in
    let firsts = c.loop-region.firsts.items in
    let all : c.loop-region.region ≡ h.geometry.n + 1 =
    omega (arith, c.loop-region-test.false, c.loop-region.auto.region-end, c.regions.ensures.value, ap (λ g. g.n) c.geometry-geometry.ensures.same) in
    record {
      one_each = c.loop-region.invariant.count ∙ all;
      each = λ r lt. subst (λ g. AreBefore c.args.patches.now (r * g.w) (get_or firsts r 0)) c.geometry-geometry.ensures.same (c.loop-region.invariant.each r (omega (arith, all, lt)));
    }

pub loop-region-smaller : goal.loop-region-smaller
loop-region-smaller c = omega (arith, c.loop-region-test.true)
