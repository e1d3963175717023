-- What budgets buy on the small heaps.
use Rattle.std.specs.Prelude.{ℕ, List, [], ◌∷◌, ◌-◌, ◌^◌, None}
use Rattle.g1_words.specs.Heap.{Heap}
use Rattle.g1_choose.specs.declared.parameters.Cost.{Cost}
use Rattle.g1_choose.specs.Choice.{IsOrder, IsChosen}
use Rattle.g1_examples.specs.Examples.{ordinary, three_regions}

-- a pause costs 10 in any case, and 1 for each dirty card, remembered card and live byte
abbrev pub unit_prices : Cost
unit_prices = record { fixed = 10; dirty = 1; card = 1; byte = 1 }

-- the refined sets of the three regions
abbrev pub three_remembered : List (List ℕ)
three_remembered = [] ∷ [] ∷ (0 ∷ []) ∷ [] ∷ [] ∷ [] ∷ []

-- and their live bytes
abbrev pub three_lives : List ℕ
three_lives = 16 ∷ 16 ∷ 8 ∷ 0 ∷ 0 ∷ 0 ∷ []

-- the three regions in their order
abbrev pub Orders : List ℕ → Type 0
Orders order = IsOrder unit_prices three_regions three_remembered three_lives order

-- what a budget buys of them
abbrev pub Buys : ℕ → List ℕ → Type 0
Buys budget set = IsChosen unit_prices three_regions three_remembered three_lives 0 budget set

-- the greatest price of a live byte, and no other
abbrev pub byte_prices : Cost
byte_prices = record { fixed = 0; dirty = 0; card = 0; byte = 2 ^ 32 - 1 }

-- two regions of the greatest size, both full
abbrev pub two_full_regions : Heap
two_full_regions = record { geometry = record { w = 65536; k = 64; n = 2 }; words = []; regions = ordinary 65536 ∷ ordinary 65536 ∷ []; roots = []; current = None }
