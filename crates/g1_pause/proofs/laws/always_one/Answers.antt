use Rattle.g1_pause.proofs.Always.{evacuation_exists, answer_exists}
use Rattle.g1_pause.proofs.laws.always_one.Goals as goal

pub returns-clause-evacuation : goal.returns-clause-evacuation
returns-clause-evacuation c = λ cost i choice tracked. evacuation_exists cost i tracked choice

pub returns-clause-answer : goal.returns-clause-answer
returns-clause-answer c = answer_exists
