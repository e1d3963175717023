use Rattle.g1_text.proofs.RenamedExample.{same, another}
use Rattle.g1_text.proofs.laws.same_by_name_example.Goals as goal

pub returns-clause-same : goal.returns-clause-same
returns-clause-same c = same

pub returns-clause-another : goal.returns-clause-another
returns-clause-another c = another
