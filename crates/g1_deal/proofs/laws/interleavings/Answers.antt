use Rattle.g1_deal.proofs.Interleaving.{none_twice, none_skipped, drawn_so_far, floors_hold}
use Rattle.g1_deal.proofs.laws.interleavings.Goals as goal

pub returns-clause-once : goal.returns-clause-once
returns-clause-once c = none_twice

pub returns-clause-all : goal.returns-clause-all
returns-clause-all c = none_skipped

pub returns-clause-so_far : goal.returns-clause-so_far
returns-clause-so_far c = drawn_so_far

pub returns-clause-floors : goal.returns-clause-floors
returns-clause-floors c = floors_hold
