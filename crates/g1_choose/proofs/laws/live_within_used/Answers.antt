use Rattle.g1_choose.proofs.LiveWithin.{live_within}
use Rattle.g1_choose.proofs.laws.live_within_used.Goals as goal

pub returns : goal.returns
returns c = live_within
