use Rattle.std.proofs.Common.{◌+◌, take, flat_map}
use Rattle.g1_words.specs.Heap.{word}
use Rattle.g1_frontier.specs.Offering.{HasTried}
use Rattle.g1_frontier.specs.Scope.{place_in, aims_in}
use Rattle.g1_frontier.proofs.offering.Offers.offer_card.Given as goal

abbrev pub invariant-loop-slot : goal.invariant-loop-slot
invariant-loop-slot l = HasTried (place_in l.self.scope.now) (flat_map (λ p. aims_in l.self.scope.now (l.base + p) (word l.self.scope.now.heap.now p))
    (take l.slot-index l.slot-items)) l.initial.holder l.holder
