use Rattle.g1_trace.proofs.Existing.{step_exists, run_exists}
use Rattle.g1_trace.proofs.laws.always_one.Goals as goal

pub returns-clause-step : goal.returns-clause-step
returns-clause-step c = step_exists

pub returns-clause-run : goal.returns-clause-run
returns-clause-run c = run_exists
