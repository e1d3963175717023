-- The lines of a set, and of the cards that lead into it.
use Rattle.std.specs.Prelude.{ℕ, Bool, List, [], ◌∷◌, map, filter, codes, decimal}
use Rattle.std.specs.List.{list_any}
use Rattle.g1_words.specs.Heap.{Heap, word, region_of}
use Rattle.g1_words.specs.Lists.{has}
use Rattle.g1_words.specs.References.{named}
use Rattle.g1_rem.specs.Slots.{slots_on}

-- these numbers, or `-` if there are none
abbrev pub number_words : List ℕ → List (List ℕ)
number_words [] = codes "-" ∷ []
number_words (x ∷ xs) = map decimal (x ∷ xs)

-- set REGION ..
abbrev pub set_line : List ℕ → List (List ℕ)
set_line set = codes "set" ∷ number_words set

-- the slots on a card that reference an address in a region that passes a test, rising
abbrev pub slots_to : Heap → (ℕ → Bool) → ℕ → List ℕ
slots_to h test c = filter (λ p. list_any (λ a. test (region_of h a)) (named (word h p))) (slots_on h c)

-- card CARD slots SLOT ..
abbrev pub entry_line : Heap → (ℕ → Bool) → ℕ → List (List ℕ)
entry_line h test c = codes "card" ∷ decimal c ∷ codes "slots" ∷ number_words (slots_to h test c)

-- the line of a set, and one for each card: its slots that lead into the set
abbrev pub set_lines : Heap → List ℕ → List ℕ → List (List (List ℕ))
set_lines h set cards = set_line set ∷ map (entry_line h (has set)) cards
