use Rattle.std.proofs.Common.{take}
use Rattle.g1_frontier.specs.Items.{items_at}
use Rattle.g1_frontier.specs.Offering.{HasTried}
use Rattle.g1_frontier.specs.Scope.{place_in, all_pairs_in}
use Rattle.g1_frontier.proofs.offering.Offers.offer_headers.Given as goal

abbrev pub invariant-loop-index : goal.invariant-loop-index
invariant-loop-index l = HasTried (place_in l.self.scope.now) (all_pairs_in l.self.scope.now (take l.index (items_at l.addresses l.bases))) l.initial.holder l.holder
