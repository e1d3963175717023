use Rattle.g1_trace.proofs.Tellings.{one_told}
use Rattle.g1_trace.proofs.Existing.{always_told}
use Rattle.g1_trace.proofs.laws.one_answer.Goals as goal

pub returns-clause-one : goal.returns-clause-one
returns-clause-one c = one_told

pub returns-clause-always : goal.returns-clause-always
returns-clause-always c = always_told
