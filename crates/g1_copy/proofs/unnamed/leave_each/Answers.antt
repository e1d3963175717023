use Rattle.std.proofs.Common.{◌≡◌, [], get_or, length, map, set, ◌<◌, ◌∙◌, sym, arith}
use Rattle.std.proofs.lemmas.List.{get_or-map, get_or_default, length-map, map-set}
use Rattle.g1_copy.specs.Remembered.{cards_at, left}
use Rattle.g1_copy.proofs.RememberedLeft.{LeftTo-step}
use Rattle.g1_copy.specs.declared.fates.Fate.TheVariants.{Freed, Kept}
use Rattle.g1_copy.proofs.unnamed.leave_each.Goals as goal

pub loop-region-preserved : goal.loop-region-preserved
loop-region-preserved c =
    let h = c.args.heap.now in
    let fates = c.args.fates.now in
    let r = c.loop-region.region in
    let old = map (λ s. s.items) c.args.sets.now in
    let mid = map (λ s. s.items) c.loop-region.sets in
    let there : c.loop-region.region < length c.loop-region.sets = omega (arith, c.loop-region-test.true, c.loop-region.auto.sets, c.requires) in
    let read : (get_or c.loop-region.sets c.loop-region.region c.index-sets-region.result).items ≡ cards_at (map (λ s. s.items) c.loop-region.sets) c.loop-region.region =
    sym (get_or-map (λ s. s.items) c.loop-region.sets c.loop-region.region c.index-sets-region.result [] there) in
    let fate = get_or_default c.args.fates.now c.loop-region.region Freed Kept c.loop-region-test.true in
    LeftTo-step h fates r old mid (map (λ s. s.items) (set c.loop-region.sets c.loop-region.region c.leave.new.cards)) c.leave.new.cards.items
    (omega (arith, c.loop-region-test.true, c.requires, length-map c.args.sets.now (λ s. s.items))) c.loop-region.invariant
    (map-set (λ s. s.items) c.loop-region.sets r c.leave.new.cards)
    (c.leave.ensures ∙ (λ q. left c.args.heap.now c.args.fates.now (fate q) (read q)))

pub loop-region-smaller : goal.loop-region-smaller
loop-region-smaller c = omega (arith, c.loop-region-test.true)
