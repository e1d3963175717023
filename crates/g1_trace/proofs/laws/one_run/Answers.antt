use Rattle.g1_trace.proofs.OneRun.{one_step, one_run}
use Rattle.g1_trace.proofs.laws.one_run.Goals as goal

pub returns-clause-step : goal.returns-clause-step
returns-clause-step c = one_step

pub returns-clause-run : goal.returns-clause-run
returns-clause-run c = one_run
