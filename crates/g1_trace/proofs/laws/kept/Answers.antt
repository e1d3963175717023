use Rattle.g1_trace.proofs.StepsKept.{start_tracked, step_keeps}
use Rattle.g1_trace.proofs.laws.kept.Goals as goal

pub returns-clause-start : goal.returns-clause-start
returns-clause-start c = λ g roots limits few. start_tracked g roots limits.bounds few

pub returns-clause-step : goal.returns-clause-step
returns-clause-step c = step_keeps
