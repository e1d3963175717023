use Rattle.g1_same.proofs.Excludes.{no_difference}
use Rattle.g1_same.proofs.laws.never_both.Goals as goal

pub returns : goal.returns
returns c = λ g h d valid is s. no_difference g h valid s d is
