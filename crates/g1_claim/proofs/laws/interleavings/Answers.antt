use Rattle.g1_claim.proofs.History.{later_is_less}
use Rattle.g1_claim.proofs.Interleaving.{least_so_far, won_so_far, history_so_far}
use Rattle.g1_claim.proofs.laws.interleavings.Goals as goal

pub returns-clause-least : goal.returns-clause-least
returns-clause-least c = least_so_far

pub returns-clause-won : goal.returns-clause-won
returns-clause-won c = won_so_far

pub returns-clause-history : goal.returns-clause-history
returns-clause-history c = history_so_far

pub returns-clause-later : goal.returns-clause-later
returns-clause-later c = later_is_less
