-- Which line a refusal of lines reports.
use Rattle.std.specs.Prelude.{◌≡◌, ◌⊎◌, ◌+◌, ℕ, true, false, Option, Some, None, List, [], ◌∷◌, ◌++◌, length, map, filter, All, IsUtf8}
use Rattle.g1_words.specs.declared.fault.Fault.TheVariants.{Memory}
use Rattle.g1_text.specs.declared.expected.Wrong.{Wrong}
use Rattle.g1_text.specs.declared.expected.Wrong.TheVariants.{Line, Fault}
use Rattle.g1_text.specs.Reading.{words_in, says_something, parts_of, lines_in}
use Rattle.g1_text.specs.Forms.{ImageHeading, ImageLine, HaveForms, HasMeaning}
use Rattle.g1_text.specs.Content.{Content}
use Rattle.g1_text.specs.Short.{Tells, TellsAll, Closes}
use Rattle.g1_text.specs.Late.{numbers_in, IsLateLine, IsLateCoveredLine}

-- what these lines of a text say, without blank ones and comments
abbrev pub said_in : List (List ℕ) → List (List (List ℕ))
said_in lines = filter says_something (map words_in lines)

-- a line may not follow what was said: in UTF-8 it says something, and these words are no line, short or full, that comes next
abbrev pub MayNotFollow : Option Content → List ℕ → Type 0
MayNotFollow said line = IsUtf8 line → (says_something (words_in line) ≡ true) × ((d : Content) → Tells said (words_in line) d → ⊥)

-- THE FIRST WRONG LINE, counted from 1 with blank lines and comments: each word of the lines above it has a meaning, and if these are lines, short or full, that follow each other, the line may not follow what they tell
pub record IsFirstWrongLine (text : List ℕ) (number : ℕ) : Type 0 where
  pub above : List (List ℕ)
  pub line : List ℕ
  pub below : List (List ℕ)
  pub parts : parts_of text ≡ above ++ line ∷ below
  pub counted : number ≡ length above + 1
  pub utf8 : All IsUtf8 above
  pub forms : (said_in above ≡ []) ⊎ HaveForms ImageHeading ImageLine (said_in above)
  pub wrong : (said : Option Content) → TellsAll None (said_in above) said → MayNotFollow said line

-- no line says anything, and this is the last one: an LF at the end of the text begins no other one
pub record IsLastLine (text : List ℕ) (number : ℕ) : Type 0 where
  pub utf8 : All IsUtf8 (parts_of text)
  pub none : lines_in text ≡ []
  pub last : (number ≡ length (parts_of text)) ⊎ ((front : List ℕ) × (text ≡ front ++ 10 ∷ []) × (number + 1 ≡ length (parts_of text)))

-- the first wrong line, or that memory is out
abbrev pub IsFirstWrong : List ℕ → Wrong → Type 0
IsFirstWrong text (Line number expected) = IsFirstWrongLine text number
IsFirstWrong text (Fault f) = f ≡ Memory

-- WHAT IS REPORTED while lines are read: the first wrong line; the last line, if there is no heading; or that memory is out
abbrev pub IsReported : List ℕ → Wrong → Type 0
IsReported text (Line number expected) = IsFirstWrongLine text number ⊎ IsLastLine text number
IsReported text (Fault f) = f ≡ Memory

-- a line is reported once all are read: each word of each line has a meaning, and if these are lines, short or full, that follow each other,
-- it is the line of the first late check that fails, without a line `covered` or with one
pub record IsReportedLate (text : List ℕ) (number : ℕ) : Type 0 where
  pub forms : HasMeaning ImageHeading ImageLine text
  pub late : (told c : Content) → TellsAll None (lines_in text) (Some told) → Closes told c → c.covered ≡ false → IsLateLine (numbers_in (parts_of text)) c number
  pub covered : (told c : Content) → TellsAll None (lines_in text) (Some told) → Closes told c → c.covered ≡ true → IsLateCoveredLine (numbers_in (parts_of text)) c number

-- WHAT A REFUSAL REPORTS: as above, or a line once all are read
abbrev pub Reports : List ℕ → Wrong → Type 0
Reports text (Line number expected) = IsFirstWrongLine text number ⊎ IsLastLine text number ⊎ IsReportedLate text number
Reports text (Fault f) = f ≡ Memory
