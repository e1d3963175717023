-- Which line of objects by name is refused if they have more words than a heap may have.
use Rattle.std.specs.Prelude.{◌≡◌, ◌⊎◌, ◌≤◌, ◌<◌, ◌+◌, ℕ, Option, Some, None, List, ◌∷◌, ◌++◌, length, Result, MatchResult}
use Rattle.g1_words.specs.declared.fault.Fault.TheVariants.{Memory}
use Rattle.g1_text.specs.declared.expected.Expected.TheVariants.{FewerWords}
use Rattle.g1_text.specs.declared.expected.Wrong.{Wrong}
use Rattle.g1_text.specs.declared.expected.Wrong.TheVariants.{Line, Fault}
use Rattle.g1_text.specs.Reading.{words_in, parts_of}
use Rattle.g1_text.specs.Graphs.{NamedGraph, SayNamed, AddsObject, FitsHeap, words_of, most_words_of}
use Rattle.g1_text.specs.Refused.{IsOther}
use Rattle.g1_text.specs.Reported.{said_in}

-- what was said so far fits, if anything was
abbrev pub FitsSoFar : Option NamedGraph → Type 0
FitsSoFar None = Unit {0}
FitsSoFar (Some g) = FitsHeap g

-- THE LINE AT WHICH THE OBJECTS ARE TOO MANY, counted from 1 with blank lines and comments: what the lines above it say fits, and with the
-- object of this line there are so many words, more than the most that the heap may have
pub record IsOverfullLine (text : List ℕ) (number words most : ℕ) : Type 0 where
  pub above : List (List ℕ)
  pub line : List ℕ
  pub below : List (List ℕ)
  pub parts : parts_of text ≡ above ++ line ∷ below
  pub counted : number ≡ length above + 1
  pub graph : NamedGraph
  pub with_object : NamedGraph
  pub says : SayNamed None (said_in above) (Some graph)
  pub adds : AddsObject graph (words_in line) with_object
  pub fits : FitsHeap graph
  pub total : words ≡ words_of with_object
  pub limit : most ≡ most_words_of graph.sizes
  pub more : most < words

-- this line is reported with these numbers; or this line or one above it for another reason; or that memory is out
abbrev pub ReportsOverfull : (number words most : ℕ) → Wrong → Type 0
ReportsOverfull number words most (Line n expected) = ((n ≡ number) × (expected ≡ FewerWords words most)) ⊎ ((n ≤ number) × IsOther expected)
ReportsOverfull number words most (Fault f) = f ≡ Memory

-- TOO MANY WORDS ARE REFUSED AT THEIR LINE: no line below it is read
abbrev pub RefusesOverfull : {T : Type 0} → List ℕ → Result T Wrong → Type 0
RefusesOverfull text r = (number words most : ℕ) → IsOverfullLine text number words most → MatchResult r (λ _. ⊥) (ReportsOverfull number words most)
