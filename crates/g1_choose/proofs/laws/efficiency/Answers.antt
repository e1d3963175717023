use Rattle.g1_choose.proofs.OneChoice.{comes_before-any_two, comes_before-chain}
use Rattle.g1_choose.proofs.Rising.{comes_before-one_way}
use Rattle.g1_choose.proofs.laws.efficiency.Goals as goal

pub returns-clause-one_way : goal.returns-clause-one_way
returns-clause-one_way c = comes_before-one_way

pub returns-clause-any_two : goal.returns-clause-any_two
returns-clause-any_two c = comes_before-any_two

pub returns-clause-chain : goal.returns-clause-chain
returns-clause-chain c = comes_before-chain
