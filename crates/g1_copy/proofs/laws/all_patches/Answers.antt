use Rattle.g1_copy.proofs.LeadingCards.{refined_find_patches}
use Rattle.g1_copy.proofs.laws.all_patches.Goals as goal

pub returns : goal.returns
returns c = refined_find_patches
