-- Which humongous objects a pause frees, and which it doesn't.
use Rattle.std.proofs.Common.{[], ◌∷◌, refl}
use Rattle.g1_words.specs.Survivors.{seeds, children}
use Rattle.g1_examples.specs.Examples.{humongous_owner_after, humongous_owner_image}
use Rattle.g1_examples.specs.Unnamed.{chain_after, named_by_the_dead, own_slot, unnamed_owner}
use Rattle.g1_words.proofs.Unique.{search_ends}
use Rattle.g1_examples.proofs.Moving.{chain_paused, copied, dead_goes, dead_stays, humongous_moved, own_slot_stays, second_stays, with_a_copy, without_the_dead}
use Rattle.g1_examples.proofs.humongous_objects.Goals as goal

pub returns-clause-chain_after : goal.returns-clause-chain_after
returns-clause-chain_after c = chain_paused

pub returns-clause-chain_after_two : goal.returns-clause-chain_after_two
returns-clause-chain_after_two c = ([], search_ends (seeds chain_after.heap []) (children chain_after.heap []) 0 refl, record { between = chain_after; moved = second_stays; freed = refl })

pub returns-clause-own_slot_after : goal.returns-clause-own_slot_after
returns-clause-own_slot_after c = ([], search_ends (seeds own_slot.heap []) (children own_slot.heap []) 0 refl, record { between = own_slot; moved = own_slot_stays; freed = refl })

pub returns-clause-named_by_the_dead : goal.returns-clause-named_by_the_dead
returns-clause-named_by_the_dead c = (
  [],
  search_ends (seeds named_by_the_dead.heap []) (children named_by_the_dead.heap []) 0 refl,
  record
      { between = named_by_the_dead; moved = dead_stays; freed = refl },
)

pub returns-clause-with_the_dead : goal.returns-clause-with_the_dead
returns-clause-with_the_dead c = (
  [],
  search_ends (seeds named_by_the_dead.heap (0 ∷ [])) (children named_by_the_dead.heap (0 ∷ [])) 0 refl,
  record
      { between = without_the_dead; moved = dead_goes; freed = refl },
)

pub returns-clause-unnamed_owner_after : goal.returns-clause-unnamed_owner_after
returns-clause-unnamed_owner_after c = (
  48 ∷ [],
  search_ends (seeds unnamed_owner.heap (3 ∷ [])) (children unnamed_owner.heap (3 ∷ [])) 1 refl,
  record
      { between = with_a_copy; moved = copied; freed = refl },
)

pub returns-clause-named_owner_after : goal.returns-clause-named_owner_after
returns-clause-named_owner_after c = (
  48 ∷ [],
  search_ends (seeds humongous_owner_image.heap (3 ∷ [])) (children humongous_owner_image.heap (3 ∷ []))
      1 refl,
  record { between = humongous_owner_after; moved = humongous_moved; freed = refl },
)
