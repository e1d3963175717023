use Rattle.std.proofs.Common.{◌-◌, ◌/◌, slice_index, ◌∙◌, ap, arith}
use Rattle.g1_copy.proofs.UnnamedMarks.{root_home}
use Rattle.g1_copy.proofs.unnamed.mark_rooted.Goals as goal

pub set-requires : goal.set-requires
set-requires c =
    let h = c.args.heap.now in
    let lt = root_home h c.geometry-geometry.ensures.valid c.roots-root-items.result.now c.loop-root.root-index c.roots-root-items.ensures c.loop-root-test.true c.if-root-gt0.true in
    let same = c.region_of.ensures ∙ ap (λ g. (slice_index c.roots-root-items.result.now c.loop-root.root-index - 1) / g.w) c.geometry-geometry.ensures.same in
    omega (arith, lt, same, c.loop-root.invariant.one_each, c.requires)

pub loop-root-smaller : goal.loop-root-smaller
loop-root-smaller c = omega (arith, c.loop-root-test.true)
