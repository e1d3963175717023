use Rattle.g1_rem.proofs.Card.{slots_rise, slots_on_card}
use Rattle.g1_rem.proofs.Exact.{exact_by_slots}
use Rattle.g1_rem.proofs.laws.card_slots.Goals as goal

pub returns-clause-rising : goal.returns-clause-rising
returns-clause-rising c = slots_rise

pub returns-clause-members : goal.returns-clause-members
returns-clause-members c = slots_on_card

pub returns-clause-exact : goal.returns-clause-exact
returns-clause-exact c = exact_by_slots
