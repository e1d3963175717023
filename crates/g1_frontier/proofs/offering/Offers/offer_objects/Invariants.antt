use Rattle.std.proofs.Common.{◌-◌, ◌≤◌, length, take}
use Rattle.g1_frontier.specs.Items.{items_at}
use Rattle.g1_frontier.specs.Offering.{HasTried}
use Rattle.g1_frontier.specs.Scope.{place_in, all_pairs_in}
use Rattle.g1_frontier.proofs.offering.Offers.offer_objects.Given as goal

abbrev pub invariant-loop-from : goal.invariant-loop-from
invariant-loop-from l = record {
  tried : HasTried (place_in l.self.scope.now) (all_pairs_in l.self.scope.now (take l.from (items_at l.addresses l.bases))) l.initial.holder l.holder;
  within : l.from ≤ length l.addresses;
}

abbrev pub decreases-loop-from : goal.decreases-loop-from
decreases-loop-from l = length l.addresses - l.from
