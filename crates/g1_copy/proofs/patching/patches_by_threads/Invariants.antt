use Rattle.std.proofs.Common.{◌≡◌, ◌*◌, take}
use Rattle.g1_copy.specs.Patches.{patches_by_card}
use Rattle.g1_copy.proofs.patching.patches_by_threads.Given as goal

abbrev pub invariant-loop-part : goal.invariant-loop-part
invariant-loop-part g l = l.patches.items ≡ patches_by_card l.moves.heap l.moves.plan.survivors (take (l.part-index * l.size) l.cards)
