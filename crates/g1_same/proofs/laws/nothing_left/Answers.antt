use Rattle.g1_same.proofs.Unreached.{nothing_left}
use Rattle.g1_same.proofs.laws.nothing_left.Goals as goal

pub returns : goal.returns
returns c = nothing_left
