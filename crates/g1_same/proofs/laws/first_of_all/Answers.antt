use Rattle.g1_same.proofs.Unreached.{first_of_all}
use Rattle.g1_same.proofs.laws.first_of_all.Goals as goal

pub returns : goal.returns
returns c = first_of_all
