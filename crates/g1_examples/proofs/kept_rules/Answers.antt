use Rattle.g1_examples.proofs.Inhabited.{dead_owner_is_image}
use Rattle.g1_examples.proofs.Humongous.{humongous_owner_is_valid}
use Rattle.g1_examples.proofs.kept_rules.Goals as goal

pub returns-clause-dead_owner : goal.returns-clause-dead_owner
returns-clause-dead_owner c = dead_owner_is_image

pub returns-clause-humongous_owner : goal.returns-clause-humongous_owner
returns-clause-humongous_owner c = humongous_owner_is_valid
