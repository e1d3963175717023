use Rattle.g1_after.proofs.PausedLaws.{copies_paused, objects_paused, tracked_paused}
use Rattle.g1_after.proofs.laws.image_after.Goals as goal

pub returns-clause-objects : goal.returns-clause-objects
returns-clause-objects c = objects_paused

pub returns-clause-copies : goal.returns-clause-copies
returns-clause-copies c = copies_paused

pub returns-clause-tracked : goal.returns-clause-tracked
returns-clause-tracked c = tracked_paused
