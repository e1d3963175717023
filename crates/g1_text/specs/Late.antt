-- Which line a refusal reports once all lines are read.
use Rattle.std.specs.Prelude.{◌≡◌, ◌⊎◌, ◌+◌, ℕ, Bool, true, false, List, [], ◌∷◌, ◌++◌, None, length, drop, replicate, codes, slice_index, slice_index_or, All}
use Rattle.std.specs.Str.{bytes_eq}
use Rattle.std.specs.Str.Parse.{digits_value}
use Rattle.g1_words.specs.declared.fault.Fault.TheVariants.{Memory}
use Rattle.g1_image.specs.Parts.{CountsFit}
use Rattle.g1_image.specs.Faults.{IsFirstBreach}
use Rattle.g1_text.specs.declared.expected.Wrong.{Wrong}
use Rattle.g1_text.specs.declared.expected.Wrong.TheVariants.{Line, Fault}
use Rattle.g1_text.specs.Reading.{words_in}
use Rattle.g1_text.specs.Content.{Content, Counts, CountsAgree, Agrees, file_with}
use Rattle.g1_text.specs.Counted.{HeadingAgrees}
use Rattle.g1_text.specs.Covered.{AreCoverOf}
use Rattle.g1_text.specs.FaultLines.{LineNumbers, IsSetLine, IsFaultyLine}

-- a line begins with this word
abbrev pub begins_with : List ℕ → List (List ℕ) → Bool
begins_with word [] = false
begins_with word (first ∷ words) = bytes_eq first word

-- this number if a test says so
abbrev pub number_if : Bool → ℕ → List ℕ
number_if true n = n ∷ []
number_if false n = []

-- the numbers of the lines of which a test says so: the first line has number n
abbrev pub numbers_from : (List (List ℕ) → Bool) → ℕ → List (List ℕ) → List ℕ
numbers_from test n [] = []
numbers_from test n (line ∷ lines) = number_if (test (words_in line)) n ++ numbers_from test (n + 1) lines

-- how many cards a `dirty` line has, behind its first two words
abbrev pub cards_if : Bool → List (List ℕ) → ℕ
cards_if true words = length (drop 2 words)
cards_if false words = 0

-- the numbers of the `dirty` lines, each as often as the line has cards
abbrev pub numbers_of_cards : ℕ → List (List ℕ) → List ℕ
numbers_of_cards n [] = []
numbers_of_cards n (line ∷ lines) = replicate (cards_if (begins_with (codes "dirty") (words_in line)) (words_in line)) n ++ numbers_of_cards (n + 1) lines

-- the region that the second word of a `remembered` line names, with the line's number
abbrev pub region_if : Bool → List (List ℕ) → ℕ → List (ℕ × ℕ)
region_if true words n = (digits_value 10 (slice_index_or words 1 []), n) ∷ []
region_if false words n = []

-- the numbers of the `remembered` lines, with their regions
abbrev pub numbers_of_sets : ℕ → List (List ℕ) → List (ℕ × ℕ)
numbers_of_sets n [] = []
numbers_of_sets n (line ∷ lines) = region_if (begins_with (codes "remembered") (words_in line)) (words_in line) n ++ numbers_of_sets (n + 1) lines

-- THE NUMBERS OF LINES, counted from 1 with blank lines and comments
abbrev pub numbers_in : List (List ℕ) → LineNumbers
numbers_in lines = record {
  headings = numbers_from (begins_with (codes "heap")) 1 lines;
  roots = numbers_from (begins_with (codes "root")) 1 lines;
  log = numbers_of_cards 1 lines;
  regions = numbers_from (begins_with (codes "region")) 1 lines;
  remembered = numbers_of_sets 1 lines;
  objects = numbers_from (begins_with (codes "object")) 1 lines;
}

-- what the region's line of this place says
abbrev pub counts_at : Content → ℕ → Counts
counts_at c k = slice_index_or c.counts k (record { region = 0; top = None; objects = None; cards = None; found = 0 })

-- the heading is wrong: its counts do not agree, or the current region is no ordinary one
pub record IsWrongHeading (lines : LineNumbers) (c : Content) (number : ℕ) : Type 0 where
  pub wrong : HeadingAgrees c → ⊥
  pub line : lines.headings ≡ number ∷ []

-- the heading agrees, and this is the first region's line whose counts do not
pub record IsWrongRegion (lines : LineNumbers) (c : Content) (number : ℕ) : Type 0 where
  pub heading : HeadingAgrees c
  pub place : ℕ
  pub first : IsFirstBreach (λ k. CountsAgree c (counts_at c k)) (length c.counts) place
  pub line : number ≡ slice_index lines.regions place

-- all counts agree, and if they have 32 bits as in a file, the line is that of the fault of the bytes
abbrev pub IsWrongImage : LineNumbers → Content → ℕ → Type 0
IsWrongImage lines c number = Agrees c × (CountsFit (file_with c) → IsFaultyLine lines c number)

-- THE FIRST LATE CHECK THAT FAILS, and its line: the heading's counts and the current region come first, then each region's line, by number,
-- and then the rules of an image
abbrev pub IsLateLine : LineNumbers → Content → ℕ → Type 0
IsLateLine lines c number = IsWrongHeading lines c number ⊎ IsWrongRegion lines c number ⊎ IsWrongImage lines c number

-- such a line, or that memory is out
abbrev pub IsLate : LineNumbers → Content → Wrong → Type 0
IsLate lines c (Line number expected) = IsLateLine lines c number
IsLate lines c (Fault f) = f ≡ Memory

-- no line tells a remembered card
abbrev pub NoneRemembered : Content → Type 0
NoneRemembered c = All (λ cards. cards ≡ []) c.remembered

-- lines tell remembered cards: of the first region with one its last line is reported
pub record IsWrongSet (lines : LineNumbers) (c : Content) (number : ℕ) : Type 0 where
  pub region : ℕ
  pub first : IsFirstBreach (λ r. slice_index_or c.remembered r [] ≡ []) (length c.remembered) region
  pub line : IsSetLine lines region number

-- such a line, or that memory is out
abbrev pub IsBeside : LineNumbers → Content → Wrong → Type 0
IsBeside lines c (Line number expected) = IsWrongSet lines c number
IsBeside lines c (Fault f) = f ≡ Memory

-- WITH A LINE `covered` a remembered card that a line tells is refused first. The checks behind are those without that line,
-- with the sets that it stands for
abbrev pub IsLateCoveredLine : LineNumbers → Content → ℕ → Type 0
IsLateCoveredLine lines c number = IsWrongSet lines c number ⊎ (NoneRemembered c × (sets : List (List ℕ)) × AreCoverOf c sets × IsLateLine lines (record c { covered = false; remembered = sets }) number)

-- such a line, or that memory is out
abbrev pub IsLateCovered : LineNumbers → Content → Wrong → Type 0
IsLateCovered lines c (Line number expected) = IsLateCoveredLine lines c number
IsLateCovered lines c (Fault f) = f ≡ Memory
