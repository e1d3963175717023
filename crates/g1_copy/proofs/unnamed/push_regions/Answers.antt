use Rattle.std.proofs.Common.{◌-◌, ◌++◌, ◌∷◌, [], append_assoc, ◌∙◌, ap, arith}
use Rattle.std.specs.List.{range_with_len}
use Rattle.g1_rem.proofs.Scan.{range_more}
use Rattle.g1_copy.proofs.unnamed.push_regions.Goals as goal

pub loop-region-preserved : goal.loop-region-preserved
loop-region-preserved c =
    let old = c.args.regions.now.items in
    let first = c.args.first in
    let r = c.loop-region.region in
    c.in_ok-push.ensures.items ∙ ap (λ l. l ++ c.loop-region.region ∷ []) c.loop-region.invariant ∙ append_assoc old (range_with_len first (r - first)) (r ∷ [])
    ∙ ap (λ l. c.args.regions.now.items ++ l) (range_more first r (omega arith))

pub loop-region-smaller : goal.loop-region-smaller
loop-region-smaller c = omega (arith, c.loop-region-test.true)
