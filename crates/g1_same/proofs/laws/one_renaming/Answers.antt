use Rattle.g1_same.proofs.OneRenaming.{one_renaming}
use Rattle.g1_same.proofs.laws.one_renaming.Goals as goal

pub returns : goal.returns
returns c = one_renaming
