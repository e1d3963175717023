use Rattle.std.proofs.Common.{◌-◌, ◌≤◌, length, take}
use Rattle.g1_frontier.specs.Offering.{HasTried}
use Rattle.g1_frontier.specs.Scope.{place_in, all_pairs_in}
use Rattle.g1_frontier.proofs.offering.Offers.offer_items.Given as goal

abbrev pub invariant-loop-from : goal.invariant-loop-from
invariant-loop-from l = record {
  tried : HasTried (place_in l.self.scope.now) (all_pairs_in l.self.scope.now (take l.from l.items)) l.initial.holder l.holder;
  within : l.from ≤ length l.items;
}

abbrev pub decreases-loop-from : goal.decreases-loop-from
decreases-loop-from l = length l.items - l.from
