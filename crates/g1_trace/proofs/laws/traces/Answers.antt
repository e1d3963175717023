use Rattle.g1_trace.proofs.Steps.{step_shows}
use Rattle.g1_trace.proofs.WholeRuns.{start_shows}
use Rattle.g1_trace.proofs.StepsKept.{whole_traces}
use Rattle.g1_trace.proofs.laws.traces.Goals as goal

pub returns-clause-start : goal.returns-clause-start
returns-clause-start c = start_shows

pub returns-clause-step : goal.returns-clause-step
returns-clause-step c = step_shows

pub returns-clause-whole : goal.returns-clause-whole
returns-clause-whole c = whole_traces
