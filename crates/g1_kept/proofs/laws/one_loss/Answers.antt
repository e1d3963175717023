use Rattle.g1_kept.proofs.First.{one_loss}
use Rattle.g1_kept.proofs.laws.one_loss.Goals as goal

pub returns : goal.returns
returns c = one_loss
