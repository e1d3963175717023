use Rattle.g1_choose.proofs.OneChoice.{none_skipped, within_budget, only_candidates}
use Rattle.g1_choose.proofs.laws.bought.Goals as goal

pub returns-clause-none_skipped : goal.returns-clause-none_skipped
returns-clause-none_skipped c = none_skipped

pub returns-clause-within_budget : goal.returns-clause-within_budget
returns-clause-within_budget c = within_budget

pub returns-clause-only_candidates : goal.returns-clause-only_candidates
returns-clause-only_candidates c = only_candidates
