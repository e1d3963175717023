use Rattle.g1_text.proofs.OneText.{one_image}
use Rattle.g1_text.proofs.laws.one_full_text.Goals as goal

pub returns : goal.returns
returns c = one_image
