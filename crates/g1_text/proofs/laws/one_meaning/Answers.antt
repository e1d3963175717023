use Rattle.g1_text.proofs.OneLine.{says_one}
use Rattle.g1_text.proofs.OneSaid.{texts_say_one}
use Rattle.g1_text.proofs.laws.one_meaning.Goals as goal

pub returns-clause-line : goal.returns-clause-line
returns-clause-line c = says_one

pub returns-clause-text : goal.returns-clause-text
returns-clause-text c = texts_say_one
