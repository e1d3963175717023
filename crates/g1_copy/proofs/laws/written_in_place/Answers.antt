use Rattle.g1_copy.proofs.Ground.{ground}
use Rattle.g1_copy.proofs.InPlaceFreed.{words_paused}
use Rattle.g1_copy.proofs.laws.written_in_place.Goals as goal

pub returns : goal.returns
returns c = λ i set l v a. words_paused i set l (ground i set l v a)
