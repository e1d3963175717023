use Rattle.std.proofs.Common.{◌++◌, ◌∷◌, [], ◌∙◌, ap, sym, map}
use Rattle.std.proofs.lemmas.List.{map_more, take_all}
use Rattle.g1_frontier.specs.Items.{slot_count}
use Rattle.g1_frontier.proofs.headers.slot_counts.Goals as goal

pub loop-at-init : goal.loop-at-init
loop-at-init c = c.in_ok-counts.ensures.items

pub loop-at-preserved : goal.loop-at-preserved
loop-at-preserved c =
    c.in_ok-push.ensures.items ∙ (λ i. c.loop-at.invariant i ++ ap (λ o. o.refs) c.object.ensures.value i ∷ [])
    ∙ sym (map_more (slot_count c.args.heap.now) c.args.addresses.now c.loop-at.at-index 0 c.loop-at-test.true)

pub returns : goal.returns
returns c = c.loop-at.invariant ∙ ap (map (slot_count c.args.heap.now)) (take_all c.loop-at.at-index c.args.addresses.now c.loop-at-test.false)
