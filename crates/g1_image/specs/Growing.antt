-- The words of regions that are laid one behind the other.
use Rattle.std.specs.Prelude.{ℕ, List, ◌++◌, replicate}
use Rattle.g1_image.specs.declared.pieces.Growing.{Growing}

-- the words in the list, and the zeros that are still to come
abbrev pub laid_words : Growing → List ℕ
laid_words l = l.words.items ++ replicate l.zeros 0
