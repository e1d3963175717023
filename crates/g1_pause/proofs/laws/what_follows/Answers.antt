use Rattle.g1_pause.proofs.Following.{evacuation_follows, answer_follows}
use Rattle.g1_pause.proofs.laws.what_follows.Goals as goal

pub returns-clause-evacuation : goal.returns-clause-evacuation
returns-clause-evacuation c = evacuation_follows

pub returns-clause-answer : goal.returns-clause-answer
returns-clause-answer c = answer_follows
