use Rattle.std.proofs.Common.{◌≡◌, take, map}
use Rattle.g1_frontier.specs.Items.{slot_count}
use Rattle.g1_frontier.proofs.headers.slot_counts.Given as goal

abbrev pub invariant-loop-at : goal.invariant-loop-at
invariant-loop-at l = l.counts.items ≡ map (slot_count l.heap) (take l.at-index l.addresses)
