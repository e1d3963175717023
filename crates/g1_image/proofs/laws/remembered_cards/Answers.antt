use Rattle.g1_image.proofs.Covers.{card_region, cards_rise, exact_tells, refined_tells}
use Rattle.g1_image.proofs.laws.remembered_cards.Goals as goal

pub returns-clause-regions : goal.returns-clause-regions
returns-clause-regions c = λ h p valid. card_region h valid p

pub returns-clause-rising : goal.returns-clause-rising
returns-clause-rising c = cards_rise

pub returns-clause-exact : goal.returns-clause-exact
returns-clause-exact c = λ h r k valid. exact_tells h valid r k

pub returns-clause-refined : goal.returns-clause-refined
returns-clause-refined c = λ i r k good lt. refined_tells i good r k lt
