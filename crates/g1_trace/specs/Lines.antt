-- Names and numbers in a line of a trace.
use Rattle.std.specs.Prelude.{◌≡◌, ℕ, List, [], ◌∷◌, ◌+◌, ◌*◌, ◌-◌, ◌<◌, length, slice_index, codes, ⊤}
use Rattle.std.specs.Int.{IsInRange}
use Rattle.g1_trace.specs.declared.parsing.Name.{Name}
use Rattle.g1_trace.specs.declared.parsing.Name.TheVariants.{New, Get, Put, Set, Say, Same, Copy, Drop, Pause}
use Rattle.g1_trace.specs.declared.parsing.Numbers.{Numbers}
use Rattle.g1_trace.specs.declared.parsing.Numbers.TheVariants.{One, Two, Three}

-- every byte is a digit
abbrev pub AreDigits : List ℕ → Type 0
AreDigits ds = (i : ℕ) → i < length ds → IsInRange 48 57 (slice_index ds i)

-- the bytes are at their end, or go on with a byte that is no digit
abbrev pub IsNumberEnd : List ℕ → Type 0
IsNumberEnd [] = ⊤
IsNumberEnd (b ∷ bs) = IsInRange 48 57 b → ⊥

-- the bytes are at their end, or at the end of a line
abbrev pub IsLineEnd : List ℕ → Type 0
IsLineEnd [] = ⊤
IsLineEnd (b ∷ bs) = b ≡ 10

-- the number that digits write, read from the left after the number n
abbrev pub read_on : ℕ → List ℕ → ℕ
read_on n [] = n
read_on n (c ∷ cs) = read_on (10 * n + (c - 48)) cs

-- the bytes of a command's name
abbrev pub spelled : Name → List ℕ
spelled New = codes "new"
spelled Get = codes "get"
spelled Put = codes "put"
spelled Set = codes "set"
spelled Say = codes "say"
spelled Same = codes "same"
spelled Copy = codes "copy"
spelled Drop = codes "drop"
spelled Pause = codes "pause"

-- one to three numbers as a list
abbrev pub listed : Numbers → List ℕ
listed (One a) = a ∷ []
listed (Two a b) = a ∷ b ∷ []
listed (Three a b d) = a ∷ b ∷ d ∷ []
