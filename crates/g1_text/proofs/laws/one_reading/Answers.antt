use Rattle.g1_text.proofs.WeakOne.{texts_read_one, plain_texts_stay}
use Rattle.g1_text.proofs.laws.one_reading.Goals as goal

pub returns-clause-one : goal.returns-clause-one
returns-clause-one c = texts_read_one

pub returns-clause-plain : goal.returns-clause-plain
returns-clause-plain c = plain_texts_stay
