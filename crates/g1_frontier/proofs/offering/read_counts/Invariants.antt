use Rattle.std.proofs.Common.{◌≡◌, take, map}
use Rattle.g1_frontier.specs.Items.{item_slots}
use Rattle.g1_frontier.proofs.offering.read_counts.Given as goal

abbrev pub invariant-loop-item : goal.invariant-loop-item
invariant-loop-item l = l.counts.items ≡ map (item_slots l.heap) (take l.item-index l.items)
