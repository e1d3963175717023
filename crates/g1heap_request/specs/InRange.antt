-- The numbers of a command that have a range.
use Rattle.std.specs.Prelude.{◌≡◌, ◌<◌, ◌≤◌, ◌^◌, ℕ, List, Some, codes}
use Rattle.clap.specs.Words.{Row, Text, first_of}
use Rattle.g1_command.specs.Values.{IsNumber}
use Rattle.g1_work.specs.Team.{AreWorkers, IsChunk}

-- an option gives a number
abbrev pub Gives : List Row → Text → ℕ → Type 0
Gives rows option n = (text : Text) × (first_of option rows ≡ Some text) × IsNumber n text

-- the number that an option gives is within a range, if it gives one; it is outside of it
abbrev pub IsWithin : (ℕ → Type 0) → List Row → Text → Type 0
IsWithin In rows option = (n : ℕ) → Gives rows option n → In n

abbrev pub IsOutside : (ℕ → Type 0) → List Row → Text → Type 0
IsOutside In rows option = (n : ℕ) × Gives rows option n × (In n → ⊥)

-- a range by its least number and its most
abbrev pub IsBetween : ℕ → ℕ → ℕ → Type 0
IsBetween least most n = (least ≤ n) × (n ≤ most)

-- something may cost n
abbrev pub MayCost : ℕ → Type 0
MayCost n = n < 2 ^ 32

-- THE NUMBERS ARE IN RANGE by which an image is looked at, or another one made of it
pub record AreInRange (rows : List Row) : Type 0 where
  pub workers : IsWithin AreWorkers rows (codes "workers")
  pub chunk : IsWithin IsChunk rows (codes "chunk")
  pub fixed : IsWithin MayCost rows (codes "fixed")
  pub dirty : IsWithin MayCost rows (codes "dirty")
  pub card : IsWithin MayCost rows (codes "card")
  pub byte : IsWithin MayCost rows (codes "byte")

-- ONE OF THEM IS OUT OF ITS RANGE
pub data IsOutOfRange (rows : List Row) : Type 0 where
  workers : IsOutside AreWorkers rows (codes "workers") → IsOutOfRange rows
  chunk : IsOutside IsChunk rows (codes "chunk") → IsOutOfRange rows
  fixed : IsOutside MayCost rows (codes "fixed") → IsOutOfRange rows
  dirty : IsOutside MayCost rows (codes "dirty") → IsOutOfRange rows
  card : IsOutside MayCost rows (codes "card") → IsOutOfRange rows
  byte : IsOutside MayCost rows (codes "byte") → IsOutOfRange rows
