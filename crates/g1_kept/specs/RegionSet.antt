-- A set of regions that is kept as marks, too.
use Rattle.std.specs.Prelude.{◌≡◌, ◌<◌, ℕ, Bool, false, List, length, slice_index_or}
use Rattle.g1_words.specs.Lists.{has}

-- the mark of each region says whether the list has it
abbrev pub IsMarked : List ℕ → List Bool → Type 0
IsMarked list marks = (r : ℕ) → r < length marks → slice_index_or marks r false ≡ has list r
