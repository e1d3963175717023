-- What lines were taken, where that is told, and why no more are.
use Rattle.std.specs.Prelude.{◌≡◌, ◌⊎◌, ℕ, List, ◌++◌, Option, Some, None, ⊤}
use Rattle.g1_words.specs.declared.fault.Fault.{Fault}
use Rattle.g1_words.specs.declared.fault.Fault.TheVariants.{Memory, Device}
use Rattle.g1_words.specs.declared.fault.Device.TheVariants.{Output}

-- A REPORT STOPS for memory, or for the output
abbrev pub StopsLines : Fault → Type 0
StopsLines f = (f ≡ Memory) ⊎ (f ≡ Device Output)

-- a beginning of the text was taken, or nothing
abbrev pub TakesPart : Option (List ℕ) → Option (List ℕ) → List ℕ → Type 0
TakesPart None new text = ⊤
TakesPart (Some xs) None text = ⊥
TakesPart (Some xs) (Some ys) text = (front : List ℕ) × (rest : List ℕ) × (text ≡ front ++ rest) × (ys ≡ xs ++ front)

-- the text was taken, and maybe more behind it
abbrev pub TakesFirst : Option (List ℕ) → Option (List ℕ) → List ℕ → Type 0
TakesFirst None new text = ⊤
TakesFirst (Some xs) None text = ⊥
TakesFirst (Some xs) (Some ys) text = (more : List ℕ) × (ys ≡ xs ++ (text ++ more))

-- nothing was taken
abbrev pub TakesNone : Option (List ℕ) → Option (List ℕ) → Type 0
TakesNone None new = ⊤
TakesNone (Some xs) None = ⊥
TakesNone (Some xs) (Some ys) = ys ≡ xs

-- a text like this was put behind another one
abbrev pub Adds : (List ℕ → Type 0) → List ℕ → List ℕ → Type 0
Adds P old new = (text : List ℕ) × P text × (new ≡ old ++ text)
