use Rattle.std.proofs.Common.{refl}
use Rattle.g1_image.specs.Text.{u32, u64}
use Rattle.g1_examples.proofs.texts.Goals as goal

pub returns-clause-one_object : goal.returns-clause-one_object
unfolding u32 u64
returns-clause-one_object c = refl

pub returns-clause-one_object_after : goal.returns-clause-one_object_after
unfolding u32 u64
returns-clause-one_object_after c = refl

pub returns-clause-dead_owner : goal.returns-clause-dead_owner
unfolding u32 u64
returns-clause-dead_owner c = refl

pub returns-clause-dead_owner_after : goal.returns-clause-dead_owner_after
unfolding u32 u64
returns-clause-dead_owner_after c = refl

pub returns-clause-version_two : goal.returns-clause-version_two
unfolding u32 u64
returns-clause-version_two c = refl

pub returns-clause-pins : goal.returns-clause-pins
returns-clause-pins c = refl

pub returns-clause-moved_pins : goal.returns-clause-moved_pins
returns-clause-moved_pins c = refl
