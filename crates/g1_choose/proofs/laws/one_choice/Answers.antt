use Rattle.g1_choose.proofs.OneChoice.{order_exists, one_order, set_exists, one_set}
use Rattle.g1_choose.proofs.laws.one_choice.Goals as goal

pub returns-clause-order : goal.returns-clause-order
returns-clause-order c = order_exists

pub returns-clause-one_order : goal.returns-clause-one_order
returns-clause-one_order c = one_order

pub returns-clause-set : goal.returns-clause-set
returns-clause-set c = set_exists

pub returns-clause-one_set : goal.returns-clause-one_set
returns-clause-one_set c = one_set
