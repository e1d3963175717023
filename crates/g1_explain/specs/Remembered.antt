-- The lines of remembered sets: what the dirty cards add to them, and what a pause changes.
use Rattle.std.specs.Prelude.{ℕ, not, min, List, [], ◌∷◌, ◌++◌, map, flat_map, filter, length, codes, decimal, slice_index_or}
use Rattle.std.specs.List.{range_with_len}
use Rattle.g1_words.specs.Lists.{has}
use Rattle.g1_words.specs.Heap.{regions}
use Rattle.g1_image.specs.Image.{Image}
use Rattle.g1_image.specs.Cards.{refined}
use Rattle.g1_explain.specs.Cards.{number_words}

-- the cards that a set has after and not before
abbrev pub joined : List ℕ → List ℕ → List ℕ
joined before after = filter (λ c. not (has before c)) after

-- remembered REGION gains CARD .., or loses CARD ..; no line if there is no card
abbrev pub set_change : ℕ → List ℕ → List ℕ → List (List (List ℕ))
set_change r word [] = []
set_change r word (c ∷ cs) = (codes "remembered" ∷ decimal r ∷ word ∷ map decimal (c ∷ cs)) ∷ []

-- the lines of a set, by what it has before and after
abbrev pub set_changes : ℕ → List ℕ → List ℕ → List (List (List ℕ))
set_changes r before after = set_change r (codes "gains") (joined before after) ++ set_change r (codes "loses") (joined after before)

-- those of the sets of all regions
abbrev pub remembered_changes : List (List ℕ) → List (List ℕ) → List (List (List ℕ))
remembered_changes before after =
    flat_map (λ r. set_changes r (slice_index_or before r []) (slice_index_or after r [])) (range_with_len 0 (min (length before) (length after)))

-- the regions whose set gains a card, rising
abbrev pub gaining : List (List ℕ) → List (List ℕ) → ℕ → List ℕ
gaining before after c =
    filter (λ r. has (joined (slice_index_or before r []) (slice_index_or after r [])) c) (range_with_len 0 (min (length before) (length after)))

-- dirty CARD adds REGION ..
abbrev pub dirty_line : List (List ℕ) → List (List ℕ) → ℕ → List (List ℕ)
dirty_line before after c = codes "dirty" ∷ decimal c ∷ codes "adds" ∷ number_words (gaining before after c)

-- a line for each dirty card, in the log's order: the regions whose refined set gains it
abbrev pub dirty_lines : Image → List (List (List ℕ))
dirty_lines i = map (dirty_line i.remembered (map (refined i) (regions i.heap))) i.log
