use Rattle.std.proofs.Common.{◌++◌, ◌∷◌, [], ◌∙◌, ap, sym, map}
use Rattle.std.proofs.lemmas.List.{map_more, take_all}
use Rattle.g1_frontier.specs.declared.item.Item.TheVariants.{Root}
use Rattle.g1_frontier.specs.Items.{item_slots}
use Rattle.g1_frontier.proofs.offering.read_counts.Goals as goal

pub loop-item-init : goal.loop-item-init
loop-item-init c = c.clear.ensures.items

pub slots_of_item-requires : goal.slots_of_item-requires
slots_of_item-requires c = c.requires c.loop-item.item-index (Root 0) c.loop-item-test.true

pub loop-item-preserved : goal.loop-item-preserved
loop-item-preserved c =
    c.in_ok-push.ensures.items ∙ (λ i. c.loop-item.invariant i ++ c.slots_of_item.ensures i ∷ [])
    ∙ sym (map_more (item_slots c.args.heap.now) c.args.items.now c.loop-item.item-index (Root 0) c.loop-item-test.true)

pub returns : goal.returns
returns c = c.loop-item.invariant ∙ ap (map (item_slots c.args.heap.now)) (take_all c.loop-item.item-index c.args.items.now c.loop-item-test.false)
