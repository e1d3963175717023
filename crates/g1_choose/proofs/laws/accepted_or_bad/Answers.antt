use Rattle.g1_choose.proofs.Naming.{accepted_or_bad, accepted_not_bad, one_first_bad}
use Rattle.g1_choose.proofs.laws.accepted_or_bad.Goals as goal

pub returns-clause-either : goal.returns-clause-either
returns-clause-either c = accepted_or_bad

pub returns-clause-not_both : goal.returns-clause-not_both
returns-clause-not_both c = λ h list i valid. accepted_not_bad h list i valid.region_count

pub returns-clause-one : goal.returns-clause-one
returns-clause-one c = one_first_bad
