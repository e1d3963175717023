-- The cards that lead into a collection set.
use Rattle.std.specs.Prelude.{ℕ, Bool, false, not, ◌&&◌, List, [], slice_index_or}
use Rattle.std.specs.List.{list_any}
use Rattle.g1_words.specs.Heap.{Heap}
use Rattle.g1_words.specs.Lists.{has}
use Rattle.g1_image.specs.Image.{card_in, region_of_card}
use Rattle.g1_image.specs.Cards.{cards_where}

-- the card stands in the remembered set of one of these regions
abbrev pub is_listed : List (List ℕ) → List ℕ → ℕ → Bool
is_listed remembered set c = list_any (λ r. has (slice_index_or remembered r []) c) set

-- the cards outside the set that stand in the remembered set of one of its regions, rising
abbrev pub cards_into : Heap → List (List ℕ) → List ℕ → List ℕ
cards_into h remembered set = cards_where h (λ c. is_listed remembered set c && not (card_in h set c))

-- the card is marked, and its region isn't
abbrev pub is_left : Heap → List Bool → List Bool → ℕ → Bool
is_left h cards regions c = slice_index_or cards c false && not (slice_index_or regions (region_of_card h c) false)
