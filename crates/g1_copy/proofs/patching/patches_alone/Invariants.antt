use Rattle.std.proofs.Common.{◌≡◌, flat_map, take}
use Rattle.g1_rem.specs.Slots.{slots_on}
use Rattle.g1_copy.specs.Patches.{patches_at}
use Rattle.g1_copy.proofs.patching.patches_alone.Given as goal

abbrev pub invariant-loop-card : goal.invariant-loop-card
invariant-loop-card l = l.patches.items ≡ flat_map (λ c. patches_at l.moves.heap l.moves.plan.survivors (slots_on l.moves.heap c)) (take l.card-index l.cards)
