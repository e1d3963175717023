use Rattle.g1_kept.proofs.PauseKeeps.{pause_keeps}
use Rattle.g1_kept.proofs.laws.pause_keeps.Goals as goal

pub returns : goal.returns
returns c = pause_keeps
