use Rattle.std.proofs.Common.{◌∙◌, length, take, sym, ap, arith}
use Rattle.std.proofs.lemmas.List.{length-map, take_more}
use Rattle.std.proofs.lemmas.List.FromFn.{length-map-range_with_len}
use Rattle.g1_copy.specs.Links.{cards_by_region}
use Rattle.g1_copy.proofs.LinkingCards.{before_below, linked_none}
use Rattle.g1_copy.proofs.cards_by_region.add_slots.Goals as goal

pub loop-slot-init : goal.loop-slot-init
loop-slot-init c = c.requires.none ∙ linked_none c.args.heap.now

pub add_slot-requires-clause-one_each : goal.add_slot-requires-clause-one_each
add_slot-requires-clause-one_each c = sym (length-map c.loop-slot.lists (λ s. s.items)) ∙ ap length c.loop-slot.invariant ∙ length-map-range_with_len _ 0 c.args.heap.now.geometry.n

pub loop-slot-preserved : goal.loop-slot-preserved
loop-slot-preserved c =
    let i = c.loop-slot.slot-index in
    let slots = c.args.slots.now in
    let lt = c.loop-slot-test.true in
    c.in_ok-add_slot.ensures (take i slots) (before_below slots i c.requires.rising lt) c.loop-slot.invariant
    ∙ ap (cards_by_region c.args.heap.now) (sym (take_more slots i (0, 0) lt))

pub loop-slot-smaller : goal.loop-slot-smaller
loop-slot-smaller c = omega (arith, c.loop-slot-test.true)
