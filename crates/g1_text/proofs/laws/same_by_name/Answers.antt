use Rattle.g1_text.proofs.NamedObjects.{texts_give_own_names}
use Rattle.g1_text.proofs.Renaming.{same_carried, same_wherever_placed}
use Rattle.g1_text.proofs.laws.same_by_name.Goals as goal

pub returns-clause-names : goal.returns-clause-names
returns-clause-names c = texts_give_own_names

pub returns-clause-heaps : goal.returns-clause-heaps
returns-clause-heaps c = same_carried

pub returns-clause-layout : goal.returns-clause-layout
returns-clause-layout c = same_wherever_placed
