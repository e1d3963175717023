use Rattle.std.specs.Prelude.{[]}
use Rattle.g1_words.specs.Heap.{Heap}
use Rattle.g1_image.specs.Image.{Image}
use Rattle.g1_copy.proofs.Ground.{ground}
use Rattle.g1_copy.proofs.RememberedLinks.{to_space_cards, copied_cards}
use Rattle.g1_copy.proofs.laws.cards_moved.Goals as goal

-- the heap, without sets and log
abbrev alone : Heap → Image
alone h = record { heap = h; remembered = []; log = [] }

pub returns-clause-of_to_space : goal.returns-clause-of_to_space
returns-clause-of_to_space c = λ h set l v a. to_space_cards (alone h) set l (ground (alone h) set l v a)

pub returns-clause-in_to_space : goal.returns-clause-in_to_space
returns-clause-in_to_space c = λ h set l v a. copied_cards (alone h) set l (ground (alone h) set l v a)
