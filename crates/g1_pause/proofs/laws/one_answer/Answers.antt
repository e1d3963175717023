use Rattle.g1_pause.proofs.OneAnswer.{set_unique, evacuated_unique, answer_unique}
use Rattle.g1_pause.proofs.laws.one_answer.Goals as goal

pub returns-clause-set : goal.returns-clause-set
returns-clause-set c = set_unique

pub returns-clause-evacuation : goal.returns-clause-evacuation
returns-clause-evacuation c = λ cost i choice x y t. evacuated_unique cost i t choice x y

pub returns-clause-answer : goal.returns-clause-answer
returns-clause-answer c = answer_unique
