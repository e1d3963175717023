use Rattle.g1_after.proofs.PausedLaws.{one_image_after, pause_exists}
use Rattle.g1_after.proofs.laws.one_image.Goals as goal

pub returns-clause-one : goal.returns-clause-one
returns-clause-one c = one_image_after

pub returns-clause-exists : goal.returns-clause-exists
returns-clause-exists c = pause_exists
