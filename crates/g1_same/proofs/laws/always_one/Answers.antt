use Rattle.g1_same.proofs.Always.{same_or_differs}
use Rattle.g1_same.proofs.laws.always_one.Goals as goal

pub returns : goal.returns
returns c = same_or_differs
