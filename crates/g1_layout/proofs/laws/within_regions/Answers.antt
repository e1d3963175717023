use Rattle.g1_layout.proofs.Stretches.{places_rise, within_region}
use Rattle.g1_layout.proofs.laws.within_regions.Goals as goal

pub returns-clause-within : goal.returns-clause-within
returns-clause-within c = λ h set l valid can room a. within_region h set l valid can room a

pub returns-clause-rise : goal.returns-clause-rise
returns-clause-rise c = λ h set l valid can room. places_rise h set l valid can room
