use Rattle.std.proofs.Common.{◌≡◌, map, take}
use Rattle.g1_copy.specs.Links.{cards_by_region}
use Rattle.g1_copy.proofs.cards_by_region.add_slots.Given as goal

abbrev pub invariant-loop-slot : goal.invariant-loop-slot
invariant-loop-slot l = map (λ s. s.items) l.lists ≡ cards_by_region l.heap (take l.slot-index l.slots)
