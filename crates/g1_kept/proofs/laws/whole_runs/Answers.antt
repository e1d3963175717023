use Rattle.g1_kept.proofs.Runs.{frees_runs}
use Rattle.g1_kept.proofs.laws.whole_runs.Goals as goal

pub returns : goal.returns
returns c = frees_runs
