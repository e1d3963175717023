-- THE LINES OF A TEXT, with a program's names behind those that speak of a path or of an object.
use Rattle.std.specs.Prelude.{ℕ, ◌^◌, ◌==◌, ◌&&◌, Bool, not, List, [], ◌∷◌, ◌++◌, Option, Some, None, IfSome, IsTrue, if◌then◌else◌, nat_lt, nat_le, bytes_eq, codes, decimal, drop, flat_map, length, slice_index_or, All, Contains}
use Rattle.std.specs.List.{filter_map, list_any, slice_split}
use Rattle.std.specs.Str.{all_ascii_digits}
use Rattle.std.specs.Str.Parse.{digits_value, without_leading_plus}
use Rattle.g1_words.specs.Heap.{Heap, object_at, objects}
use Rattle.g1_text.specs.Reading.{parts_of}
use Rattle.g1_report.specs.Program.{ProgramNames, root_name, kind_of_object, words_at}
use Rattle.g1_report.specs.Steps.{named_path_text}
use Rattle.g1_report.specs.Wording.{kind_text}

-- the words of a line, with a space between two
abbrev pub spaced_words : List ℕ → List (List ℕ)
spaced_words line = slice_split (λ b. b == 32) line

-- THE NUMBER THAT A WORD SAYS: decimal digits, of which a plus may stand in front, below 2^64
abbrev pub is_number : List ℕ → Bool
is_number digits = not (length digits == 0) && (all_ascii_digits digits && nat_lt (digits_value 10 digits) (2 ^ 64))

abbrev pub number_said : List ℕ → Option ℕ
number_said word = if is_number (without_leading_plus word) then Some (digits_value 10 (without_leading_plus word)) else None

-- a root by its name, or by its number if it has none
abbrev pub root_note : Option (List ℕ) → ℕ → List ℕ
root_note None root = codes " as root " ++ decimal root
root_note (Some name) root = codes " as " ++ name

-- the path from a root by these slots
abbrev pub path_note : ProgramNames → Heap → Option ℕ → List ℕ → List ℕ
path_note p h None slots = []
path_note p h (Some root) slots = root_note (root_name p root) root ++ named_path_text p h root slots

-- the kind of the object at an address
abbrev pub object_note : ProgramNames → Heap → Option ℕ → List ℕ
object_note p h None = []
object_note p h (Some at) = kind_text (kind_of_object p (words_at h at))

-- live ADDRESS root ROOT SLOT ..
abbrev pub has_path : List (List ℕ) → Bool
has_path words = nat_le 4 (length words) && (bytes_eq (slice_index_or words 0 []) (codes "live") && bytes_eq (slice_index_or words 2 []) (codes "root"))

-- a word and the ADDRESS of an object
abbrev pub of_objects : List (List ℕ)
of_objects = codes "survivor" ∷ codes "humongous" ∷ codes "object" ∷ codes "holder" ∷ []

abbrev pub has_object : List (List ℕ) → Bool
has_object words = nat_le 2 (length words) && list_any (λ word. bytes_eq word (slice_index_or words 0 [])) of_objects

-- THE NOTE OF A LINE, by its words
abbrev pub line_note : ProgramNames → Heap → List (List ℕ) → List ℕ
line_note p h words =
    if has_path words then path_note p h (number_said (slice_index_or words 3 [])) (filter_map number_said (drop 4 words))
    else (if has_object words then object_note p h (number_said (slice_index_or words 1 [])) else [])

-- a line that is not empty, its note, and the line's end
abbrev pub noted_line : ProgramNames → Heap → List ℕ → List ℕ
noted_line p h line = if length line == 0 then [] else line ++ (line_note p h (spaced_words line) ++ codes "\n")

-- THE TEXT WITH NAMES
abbrev pub noted_text : ProgramNames → Heap → List ℕ → List ℕ
noted_text p h text = flat_map (noted_line p h) (parts_of text)

-- an object starts at the address
abbrev pub IsOfObject : Heap → ℕ → Type 0
IsOfObject h at = Contains (objects h) (object_at h at)

-- if a line speaks of an object, its address is that of one
abbrev pub SpeaksOfObject : Heap → List (List ℕ) → Type 0
SpeaksOfObject h words = IsTrue (has_object words) → IfSome (number_said (slice_index_or words 1 [])) (IsOfObject h)

-- the same of all lines of a text
abbrev pub SpeaksOfObjects : Heap → List ℕ → Type 0
SpeaksOfObjects h text = All (λ line. SpeaksOfObject h (spaced_words line)) (parts_of text)
