use Rattle.g1_layout.proofs.Stretches.{run_regions, run_survivors, runs_in_order}
use Rattle.g1_layout.proofs.laws.runs_cover.Goals as goal

pub returns-clause-regions : goal.returns-clause-regions
returns-clause-regions c = run_regions

pub returns-clause-survivors : goal.returns-clause-survivors
returns-clause-survivors c = λ h set l valid can room t there. run_survivors h set l valid can room t there

pub returns-clause-in_order : goal.returns-clause-in_order
returns-clause-in_order c = λ h set l valid can room. runs_in_order h set l valid can room
