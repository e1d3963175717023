use Rattle.g1judge.proofs.Statuses.{memory_status}
use Rattle.g1judge.proofs.laws.memory_status.Goals as goal

pub returns : goal.returns
returns c = memory_status
