-- The lines of a text as they are read: any white space stands between words, and blank lines and comments say nothing.
use Rattle.std.specs.Prelude.{◌≡◌, ℕ, Bool, true, false, List, [], ◌∷◌, map, filter, slice_index, codes, not, ◌==◌, All, Contains, IsUtf8, MatchBool}
use Rattle.std.specs.List.{slice_split}
use Rattle.std.specs.Char.{is_ascii_whitespace}

-- a word has a byte
abbrev pub has_byte : List ℕ → Bool
has_byte [] = false
has_byte (b ∷ bs) = true

-- the words of a line: what stands between its white space
abbrev pub words_in : List ℕ → List (List ℕ)
words_in line = filter has_byte (slice_split is_ascii_whitespace line)

-- a line says something if it has a word, and does not begin with `#`
abbrev pub says_something : List (List ℕ) → Bool
says_something [] = false
says_something (word ∷ words) = not (slice_index word 0 == 35)

-- the parts of a text between its line ends
abbrev pub parts_of : List ℕ → List (List ℕ)
parts_of text = slice_split (λ b. b == 10) text

-- THE LINES OF A TEXT that say something, each of these words
abbrev pub lines_in : List ℕ → List (List (List ℕ))
lines_in text = filter says_something (map words_in (parts_of text))

-- a text of these lines, in UTF-8
pub record HasLines (text : List ℕ) (lines : List (List (List ℕ))) : Type 0 where
  pub utf8 : All IsUtf8 (parts_of text)
  pub same : lines_in text ≡ lines

-- a line is of the kind that its first word says, and this is one of these
abbrev pub IsOfKind : List (List ℕ) → List (List ℕ) → Type 0
IsOfKind kinds [] = ⊥
IsOfKind kinds (word ∷ words) = Contains kinds word

-- the kinds of a heading of objects by name
abbrev pub graph_heading : List (List ℕ)
graph_heading = codes "graph" ∷ []

-- parts of a text are lines of objects by name: up to the first one that says something all are UTF-8, and that one is the heading
abbrev pub AreGraphLines : List (List ℕ) → Type 0
AreGraphLines [] = ⊥
AreGraphLines (part ∷ parts) = IsUtf8 part × MatchBool (says_something (words_in part)) (IsOfKind graph_heading (words_in part)) (AreGraphLines parts)
