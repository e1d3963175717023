use Rattle.std.proofs.Common.{◌+◌, ◌-◌, flat_map}
use Rattle.std.specs.List.{range_with_len}
use Rattle.g1_words.specs.Heap.{word}
use Rattle.g1_frontier.specs.Offering.{HasTried}
use Rattle.g1_frontier.specs.Scope.{place_in, aims_in}
use Rattle.g1_frontier.proofs.offering.Offers.offer_object.Given as goal

abbrev pub invariant-loop-slot : goal.invariant-loop-slot
invariant-loop-slot l = HasTried (place_in l.self.scope.now) (flat_map
    (λ p. aims_in l.self.scope.now (l.base + (p - (l.at + 1))) (word l.self.scope.now.heap.now p)) (range_with_len l.first (l.slot - l.first))) l.initial.holder l.holder
