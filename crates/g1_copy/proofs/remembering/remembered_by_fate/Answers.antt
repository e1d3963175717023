use Rattle.std.proofs.Common.{List, ℕ, map, subst, sym}
use Rattle.std.specs.List.Sorted.{IsStrictlyIncreasing}
use Rattle.g1_copy.specs.Links.{copied_slots}
use Rattle.g1_copy.proofs.RememberedPaused.{AreThere, cards_lent, outer_rise, outer_there, paused_sources, paused_remembered}
use Rattle.g1_copy.proofs.remembering.remembered_by_fate.Goals as goal

pub cards_by_region-requires-clause-rising : goal.cards_by_region-requires-clause-rising
cards_by_region-requires-clause-rising g c =
    subst (λ (xs : List (ℕ × ℕ)). IsStrictlyIncreasing (map (λ x. x.0) xs)) (sym c.requires.patches)
    (outer_rise c.args.tracked.now c.args.changes.now.plan.now.set c.args.changes.now.plan.now c.heap_of-heap.ensures.tracked.image c.requires.plan)

pub cards_by_region-requires-clause-there : goal.cards_by_region-requires-clause-there
cards_by_region-requires-clause-there g c =
    subst (λ h. AreThere h c.args.changes.now.patches.now) (sym c.heap_of-heap.ensures.same)
    (subst (AreThere c.args.tracked.now.heap) (sym c.requires.patches)
    (outer_there c.args.tracked.now c.args.changes.now.plan.now.set c.args.changes.now.plan.now c.heap_of-heap.ensures.tracked.image c.requires.plan))

pub join_all-requires-after_bounds : goal.join_all-requires-after_bounds
join_all-requires-after_bounds g c κs within =
    let h = c.heap_of-heap.result.now in
    let outer = cards_lent h c.args.changes.now.patches.now c.deref.result.now c.in_ok-outer.outer.items c.deref.ensures.value c.in_ok-outer.ensures in
    let inner = cards_lent h (copied_slots h c.args.changes.now.plan.now.survivors) c.deref-2.result.now c.in_ok-inner.inner.items c.deref-2.ensures.value c.in_ok-inner.ensures.ok in
    paused_sources c.args.tracked.now c.args.changes.now.plan.now.set c.args.changes.now.plan.now c.heap_of-heap.ensures.tracked.image c.requires.plan h c.heap_of-heap.ensures.same
    c.args.changes.now.patches.now c.requires.patches c.args.changes.now.fates.now c.requires.fates
    (map (λ s. s.items) c.args.remembered.now) (map (λ s. s.items) c.deref.result.now) (map (λ s. s.items) c.deref-2.result.now) c.requires.remembered outer inner

pub returns-clause-ok : goal.returns-clause-ok
returns-clause-ok g c =
    let h = c.heap_of-heap.result.now in
    let outer = cards_lent h c.args.changes.now.patches.now c.deref.result.now c.in_ok-outer.outer.items c.deref.ensures.value c.in_ok-outer.ensures in
    let inner = cards_lent h (copied_slots h c.args.changes.now.plan.now.survivors) c.deref-2.result.now c.in_ok-inner.inner.items c.deref-2.ensures.value c.in_ok-inner.ensures.ok in
    paused_remembered c.args.tracked.now c.args.changes.now.plan.now.set c.args.changes.now.plan.now c.heap_of-heap.ensures.tracked.image c.requires.plan h c.heap_of-heap.ensures.same
    c.args.changes.now.patches.now c.requires.patches c.args.changes.now.fates.now c.requires.fates
    (map (λ s. s.items) c.args.remembered.now) (map (λ s. s.items) c.deref.result.now) (map (λ s. s.items) c.deref-2.result.now) c.requires.remembered outer inner
    c.join_all.result c.join_all.ensures.ok
