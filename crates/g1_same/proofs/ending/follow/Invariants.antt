use Rattle.g1_same.proofs.Following.{IsOn}
use Rattle.g1_same.proofs.ending.follow.Given as goal

abbrev pub invariant-loop-slot : goal.invariant-loop-slot
invariant-loop-slot l = IsOn l.heap l.root l.slots l.slot-index l.reference
