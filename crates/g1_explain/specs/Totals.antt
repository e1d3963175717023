-- The lines of the room, of the totals, and of a refusal.
use Rattle.std.specs.Prelude.{ℕ, List, [], ◌∷◌, ◌++◌, codes, decimal}
use Rattle.g1_words.specs.declared.fault.Fault.{Fault}
use Rattle.g1_words.specs.declared.fault.Fault.TheVariants.{Room}
use Rattle.g1_words.specs.Fault.{number_of, fault_text}

-- room need N free M
abbrev pub room_line : ℕ → ℕ → List (List ℕ)
room_line need free = codes "room" ∷ codes "need" ∷ decimal need ∷ codes "free" ∷ decimal free ∷ []

-- that of a fault of room
abbrev pub room_lines : Fault → List (List (List ℕ))
room_lines (Room need free) = room_line need free ∷ []
room_lines _ = []

-- refused fault F: TEXT
abbrev pub refusal_line : Fault → List (List ℕ)
refusal_line e = codes "refused" ∷ codes "fault" ∷ (decimal (number_of e) ++ codes ":") ∷ fault_text e ∷ []

-- the lines of a refusal
abbrev pub refusal_lines : Fault → List (List (List ℕ))
refusal_lines e = room_lines e ++ refusal_line e ∷ []

-- cards C slots S free BEFORE AFTER
abbrev pub counts_words : ℕ → ℕ → ℕ → ℕ → List (List ℕ)
counts_words cards slots before after = codes "cards" ∷ decimal cards ∷ codes "slots" ∷ decimal slots ∷ codes "free" ∷ decimal before ∷ decimal after ∷ []

-- pause regions R humongous H objects O bytes B, and the words of what is counted
abbrev pub totals_line : ℕ → ℕ → ℕ → ℕ → List (List ℕ) → List (List ℕ)
totals_line set humongous objects bytes counts =
    codes "pause" ∷ codes "regions" ∷ decimal set ∷ codes "humongous" ∷ decimal humongous ∷ codes "objects" ∷ decimal objects ∷ codes "bytes" ∷ decimal bytes ∷ counts
