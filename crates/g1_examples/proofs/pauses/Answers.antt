use Rattle.std.proofs.Common.{[], ◌∷◌, refl}
use Rattle.g1_words.specs.Survivors.{seeds, children}
use Rattle.g1_examples.specs.Examples.{one_object, one_object_after, shared_target, shared_target_after, three_regions, humongous_owner}
use Rattle.g1_words.proofs.Unique.{search_ends}
use Rattle.g1_examples.proofs.Closed.{live_by_search}
use Rattle.g1_examples.proofs.Moving.{dead_owner_paused, humongous_moved, one_object_moved, shared_target_moved}
use Rattle.g1_examples.proofs.pauses.Goals as goal

pub returns-clause-three_regions_live : goal.returns-clause-three_regions_live
returns-clause-three_regions_live c = live_by_search three_regions 1 (16 ∷ 16 ∷ 8 ∷ 0 ∷ 0 ∷ 0 ∷ []) refl refl

pub returns-clause-shared_target_live : goal.returns-clause-shared_target_live
returns-clause-shared_target_live c = live_by_search shared_target 1 (0 ∷ 56 ∷ 0 ∷ 0 ∷ []) refl refl

pub returns-clause-dead_owner_after : goal.returns-clause-dead_owner_after
returns-clause-dead_owner_after c = dead_owner_paused

pub returns-clause-shared_target_after : goal.returns-clause-shared_target_after
returns-clause-shared_target_after c = (
  21 ∷ 16 ∷ [],
  search_ends (seeds shared_target (1 ∷ [])) (children shared_target (1 ∷ [])) 1 refl,
  record
      { between = shared_target_after; moved = shared_target_moved; freed = refl },
)

pub returns-clause-humongous_owner_after : goal.returns-clause-humongous_owner_after
returns-clause-humongous_owner_after c = (48 ∷ [], search_ends (seeds humongous_owner (3 ∷ [])) (children humongous_owner (3 ∷ [])) 1 refl, humongous_moved)

pub returns-clause-humongous_owner_live : goal.returns-clause-humongous_owner_live
returns-clause-humongous_owner_live c = live_by_search humongous_owner 2 (320 ∷ 0 ∷ 0 ∷ 16 ∷ 0 ∷ 0 ∷ []) refl refl

pub returns-clause-one_object_after : goal.returns-clause-one_object_after
returns-clause-one_object_after c = (
  16 ∷ [],
  search_ends (seeds one_object.heap (1 ∷ [])) (children one_object.heap (1 ∷ [])) 1 refl,
  record
      { between = one_object_after; moved = one_object_moved; freed = refl },
)
