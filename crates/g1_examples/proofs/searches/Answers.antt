use Rattle.std.proofs.Common.{[], ◌∷◌, refl}
use Rattle.g1_words.specs.Survivors.{seeds, children}
use Rattle.g1_examples.specs.Examples.{later_root_first, dead_owner, dead_cycle, shared_target, with_a_gap}
use Rattle.g1_words.proofs.Unique.{search_ends}
use Rattle.g1_examples.proofs.searches.Goals as goal

pub returns-clause-later_root_first : goal.returns-clause-later_root_first
returns-clause-later_root_first c = search_ends (seeds later_root_first (1 ∷ [])) (children later_root_first (1 ∷ [])) 1 refl

pub returns-clause-dead_owner : goal.returns-clause-dead_owner
returns-clause-dead_owner c = search_ends (seeds dead_owner (1 ∷ [])) (children dead_owner (1 ∷ [])) 1 refl

pub returns-clause-dead_cycle : goal.returns-clause-dead_cycle
returns-clause-dead_cycle c = search_ends (seeds dead_cycle (1 ∷ [])) (children dead_cycle (1 ∷ [])) 0 refl

pub returns-clause-shared_target : goal.returns-clause-shared_target
returns-clause-shared_target c = search_ends (seeds shared_target (1 ∷ [])) (children shared_target (1 ∷ [])) 1 refl

pub returns-clause-with_a_gap : goal.returns-clause-with_a_gap
returns-clause-with_a_gap c = search_ends (seeds with_a_gap (0 ∷ 1 ∷ [])) (children with_a_gap (0 ∷ 1 ∷ [])) 1 refl
