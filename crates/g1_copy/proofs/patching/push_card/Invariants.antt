use Rattle.std.proofs.Common.{◌≡◌, ◌++◌, take}
use Rattle.g1_copy.specs.Patches.{patches_at}
use Rattle.g1_copy.proofs.patching.push_card.Given as goal

abbrev pub invariant-loop-slot : goal.invariant-loop-slot
invariant-loop-slot l = l.patches.items ≡ l.initial.patches.items ++ patches_at l.moves.heap l.moves.plan.survivors (take l.slot-index l.slot-items)
