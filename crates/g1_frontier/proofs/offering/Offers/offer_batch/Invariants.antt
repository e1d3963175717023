use Rattle.std.proofs.Common.{take}
use Rattle.g1_frontier.specs.Offering.{HasTried}
use Rattle.g1_frontier.specs.Scope.{place_in, all_pairs_in}
use Rattle.g1_frontier.proofs.offering.Offers.offer_batch.Given as goal

abbrev pub invariant-loop-index : goal.invariant-loop-index
invariant-loop-index l = HasTried (place_in l.self.scope.now) (all_pairs_in l.self.scope.now (take l.index l.items)) l.initial.holder l.holder
