-- Values that are no objects and places inside objects: words in the place of a slot's or a root's name, and the objects' lines that stand for them.
use Rattle.std.specs.Prelude.{ℕ, zero, suc, Bool, false, ◌&&◌, ◌||◌, not, nat_eq, nat_lt, ◌==◌, ◌^◌, if◌then◌else◌, Option, Some, None, List, [], ◌∷◌, ◌++◌, length, map, filter, flat_map, take, drop, codes, bytes_eq}
use Rattle.std.specs.List.{slice_split, list_any, list_all, ends_with}
use Rattle.std.specs.Str.{all_ascii_digits, is_utf8}
use Rattle.std.specs.Str.Parse.{digits_value}
use Rattle.g1_text.specs.Reading.{has_byte, words_in, parts_of}

-- WORDS

-- a word is among others
abbrev pub is_among : List (List ℕ) → List ℕ → Bool
is_among words word = list_any (bytes_eq word) words

-- each word once, in the order in which they first appear
abbrev pub firsts : List (List ℕ) → List (List ℕ)
firsts [] = []
firsts (word ∷ words) = word ∷ filter (λ other. not (bytes_eq other word)) (firsts words)

-- digits alone, at least one
abbrev pub is_numeral : List ℕ → Bool
is_numeral word = has_byte word && all_ascii_digits word

-- a number below 2^64
abbrev pub is_number : List ℕ → Bool
is_number word = is_numeral word && nat_lt (digits_value 10 word) (2 ^ 64)

-- SLOTS AND ROOTS

-- how many slots two numbers with a slash between them say: none, if they are no such numbers
abbrev pub slots_of_parts : List (List ℕ) → ℕ
slots_of_parts [] = 0
slots_of_parts (size ∷ []) = 0
slots_of_parts (size ∷ slots ∷ []) = if is_number size && is_number slots then digits_value 10 slots else 0
slots_of_parts (size ∷ slots ∷ part ∷ parts) = 0

-- how many slots SIZE/SLOTS says
abbrev pub slots_in : List ℕ → ℕ
slots_in word = slots_of_parts (slice_split (λ b. b == 47) word)

-- words without a `weak` in front
abbrev pub behind_weak : List (List ℕ) → List (List ℕ)
behind_weak [] = []
behind_weak (word ∷ words) = if bytes_eq word (codes "weak") then words else word ∷ words

-- the first targets among words: each is a word, or `weak` and a word
abbrev pub targets : ℕ → List (List ℕ) → List (List ℕ)
targets zero words = []
targets (suc n) words = take 1 (behind_weak words) ++ targets n (drop 1 (behind_weak words))

-- SIZE/SLOTS CONTENT ..: the words in the places of the slots
abbrev pub slot_words : List (List ℕ) → List (List ℕ)
slot_words [] = []
slot_words (size ∷ content) = targets (slots_in size) content

-- the words in the places of slots and roots in a line: object NAME SIZE/SLOTS CONTENT .. or root NAME ..
abbrev pub slot_words_of : List (List ℕ) → List (List ℕ)
slot_words_of [] = []
slot_words_of (first ∷ []) = []
slot_words_of (first ∷ name ∷ words) = if bytes_eq first (codes "object") then slot_words words else if bytes_eq first (codes "root") then name ∷ [] else []

-- the name of the object that a line tells, if it tells one
abbrev pub names_in : List (List ℕ) → List (List ℕ)
names_in [] = []
names_in (first ∷ []) = []
names_in (first ∷ name ∷ words) = if bytes_eq first (codes "object") then name ∷ [] else []

-- VALUES: =TEXT
abbrev pub is_value : List ℕ → Bool
is_value [] = false
is_value (b ∷ text) = b == 61 && has_byte text

-- object =TEXT 2/0 "=TEXT"
abbrev pub value_line : List ℕ → List ℕ
value_line word = codes "object " ++ word ++ codes " 2/0 \"" ++ word ++ codes "\"\n"

-- PLACES: NAME+DISTANCE

-- a byte in front of others that are cut at their last `+`, or are without one
abbrev pub cut_behind : ℕ → List ℕ → Option (List ℕ × List ℕ) → Option (List ℕ × List ℕ)
cut_behind b bytes (Some cut) = Some (b ∷ cut.0, cut.1)
cut_behind b bytes None = if b == 43 then Some ([], bytes) else None

-- what stands in front of the last `+` of a word, and what behind it
abbrev pub cut_at_plus : List ℕ → Option (List ℕ × List ℕ)
cut_at_plus [] = None
cut_at_plus (b ∷ bytes) = cut_behind b bytes (cut_at_plus bytes)

-- such a cut, if there is a name and behind it are digits alone
abbrev pub with_digits : Option (List ℕ × List ℕ) → Option (List ℕ × List ℕ)
with_digits None = None
with_digits (Some cut) = if has_byte cut.0 && is_numeral cut.1 then Some cut else None

-- the name and the distance of a place
abbrev pub place_of_word : List ℕ → Option (List ℕ × List ℕ)
place_of_word word = with_digits (cut_at_plus word)

-- object NAME+DISTANCE 3/1 NAME "+DISTANCE"
abbrev pub place_line : List ℕ → List ℕ → List ℕ → List ℕ
place_line word name distance = codes "object " ++ word ++ codes " 3/1 " ++ name ++ codes " \"+" ++ distance ++ codes "\"\n"

-- the line of a place, if its object has one of these names
abbrev pub place_line_in : List (List ℕ) → List ℕ → Option (List ℕ × List ℕ) → List ℕ
place_line_in names word None = []
place_line_in names word (Some place) = if is_among names place.0 then place_line word place.0 place.1 else []

-- THE TEXT WITH BOXES

-- the line that stands for a word, where objects have these names: none for the name of one, nor for a word that is no value and no place
abbrev pub box_line : List (List ℕ) → List ℕ → List ℕ
box_line names word =
    if is_among names word then []
    else if is_value word then value_line word
    else place_line_in names word (place_of_word word)

-- the lines that stand for the values and the places in lines, each once
abbrev pub box_lines : List (List (List ℕ)) → List ℕ
box_lines lines = flat_map (box_line (flat_map names_in lines)) (firsts (flat_map slot_words_of lines))

-- a text that ends with an LF, if there is anything in it
abbrev pub ended : List ℕ → List ℕ
ended text = if length text == 0 || ends_with nat_eq text (codes "\n") then text else text ++ codes "\n"

-- a text with lines behind its own, if there are any
abbrev pub with_lines : List ℕ → List ℕ → List ℕ
with_lines text [] = text
with_lines text (b ∷ lines) = ended text ++ b ∷ lines

-- THE TEXT WITH A LINE MORE for each value and each place inside an object that a slot or a root has. A text that is no UTF-8 stays as it is
abbrev pub boxed_text : List ℕ → List ℕ
boxed_text text = if list_all is_utf8 (parts_of text) then with_lines text (box_lines (map words_in (parts_of text))) else text
