use Rattle.g1_image.proofs.StaleSlots.{IsSeen}
use Rattle.g1_image.proofs.stale.stale_slots.Given as goal

abbrev pub invariant-loop-at : goal.invariant-loop-at
invariant-loop-at l = IsSeen l.draft l.at l.slots_end l.found.items
