use Rattle.g1_copy.proofs.LeadingCards.{cards_lead, cards_stand_outside}
use Rattle.g1_copy.proofs.laws.cards_lead_in.Goals as goal

pub returns-clause-refined : goal.returns-clause-refined
returns-clause-refined c = cards_lead

pub returns-clause-outside : goal.returns-clause-outside
returns-clause-outside c = cards_stand_outside
