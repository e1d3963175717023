use Rattle.g1_layout.proofs.Stretches.{survivors_can}
use Rattle.g1_layout.proofs.laws.placeable.Goals as goal

pub returns : goal.returns
returns c = λ h set l. survivors_can h set l
