use Rattle.g1_same.proofs.OneFirst.{one_first}
use Rattle.g1_same.proofs.laws.one_first.Goals as goal

pub returns : goal.returns
returns c = one_first
