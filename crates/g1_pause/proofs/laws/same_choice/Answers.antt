use Rattle.g1_pause.proofs.Asking.{same_answer, same_evacuation}
use Rattle.g1_pause.proofs.laws.same_choice.Goals as goal

pub returns-clause-evacuation : goal.returns-clause-evacuation
returns-clause-evacuation c = same_evacuation

pub returns-clause-answer : goal.returns-clause-answer
returns-clause-answer c = λ limits cost. same_answer cost limits
