-- The full lines of an image: each image has one text. A line is words with one space between them, and numbers are decimal.
use Rattle.std.specs.Prelude.{ℕ, zero, suc, Bool, true, false, List, [], ◌∷◌, ◌++◌, ◌+◌, Option, Some, None, length, map, flat_map, decimal, codes, slice_index, slice_range}
use Rattle.std.specs.List.{range_with_len}
use Rattle.g1_words.specs.Heap.{kind, top, pinned, regions, objects_in}
use Rattle.g1_words.specs.Kind.{kind_word}
use Rattle.g1_words.specs.declared.object.Object.{Object}
use Rattle.g1_image.specs.Image.{Image, remembered_of}

-- the words behind the first one of a line, each after one space, and the line's end
abbrev pub further : List (List ℕ) → List ℕ
further [] = codes "\n"
further (word ∷ words) = 32 ∷ (word ++ further words)

-- the text of a line of these words
abbrev pub line_text : List (List ℕ) → List ℕ
line_text [] = codes "\n"
line_text (word ∷ words) = word ++ further words

-- a reference: `-` for null, or the address of an object
abbrev pub reference_word : ℕ → List ℕ
reference_word zero = codes "-"
reference_word (suc address) = decimal address

-- the current region, or `none`
abbrev pub current_word : Option ℕ → List ℕ
current_word None = codes "none"
current_word (Some r) = decimal r

-- heap W K N roots R dirty D current C
abbrev pub heading : Image → List (List ℕ)
heading i =
    codes "heap" ∷ decimal i.heap.geometry.w ∷ decimal i.heap.geometry.k ∷ decimal i.heap.geometry.n
    ∷ codes "roots" ∷ decimal (length i.heap.roots) ∷ codes "dirty" ∷ decimal (length i.log) ∷ codes "current" ∷ current_word i.heap.current ∷ []

-- root I REFERENCE
abbrev pub root_line : ℕ → ℕ → List (List ℕ)
root_line m x = codes "root" ∷ decimal m ∷ reference_word x ∷ []

-- the lines of the roots, by number
abbrev pub root_lines : List ℕ → List (List (List ℕ))
root_lines roots = map (λ m. root_line m (slice_index roots m)) (range_with_len 0 (length roots))

-- cards CARD ..
abbrev pub cards_words : List ℕ → List (List ℕ)
cards_words cards = codes "cards" ∷ map decimal cards

-- dirty cards CARD ..; no line if the log is empty
abbrev pub log_lines : List ℕ → List (List (List ℕ))
log_lines [] = []
log_lines (c ∷ cs) = (codes "dirty" ∷ cards_words (c ∷ cs)) ∷ []

-- `pinned` behind the numbers of a pinned region
abbrev pub pinned_words : Bool → List (List ℕ)
pinned_words true = codes "pinned" ∷ []
pinned_words false = []

-- region R KIND top T objects O cards C [pinned]
abbrev pub region_line : Image → ℕ → List (List ℕ)
region_line i r =
    codes "region" ∷ decimal r ∷ kind_word (kind i.heap r) ∷ codes "top" ∷ decimal (top i.heap r)
    ∷ codes "objects" ∷ decimal (length (objects_in i.heap r)) ∷ codes "cards" ∷ decimal (length (remembered_of i r)) ∷ pinned_words (pinned i.heap r)

-- remembered R cards CARD ..; no line if the set is empty
abbrev pub remembered_lines : ℕ → List ℕ → List (List (List ℕ))
remembered_lines r [] = []
remembered_lines r (c ∷ cs) = (codes "remembered" ∷ decimal r ∷ cards_words (c ∷ cs)) ∷ []

-- the words of an object's slots, and its data words
abbrev pub slot_values : List ℕ → Object → List ℕ
slot_values words o = slice_range words (o.at + 1) (o.at + 1 + o.refs)

abbrev pub data_values : List ℕ → Object → List ℕ
data_values words o = slice_range words (o.at + 1 + o.refs) (o.at + o.size)

-- object A SIZE/SLOTS REFERENCE .. WORD ..
abbrev pub object_line : List ℕ → Object → List (List ℕ)
object_line words o =
    codes "object" ∷ decimal o.at ∷ (decimal o.size ++ 47 ∷ decimal o.refs) ∷ (map reference_word (slot_values words o) ++ map decimal (data_values words o))

-- the lines of a region: its numbers, its remembered set, and the objects that start in it, by address
abbrev pub region_lines : Image → ℕ → List (List (List ℕ))
region_lines i r = region_line i r ∷ (remembered_lines r (remembered_of i r) ++ map (object_line i.heap.words) (objects_in i.heap r))

-- the lines of an image: the heading, the roots, the log, and the regions, by number
abbrev pub image_lines : Image → List (List (List ℕ))
image_lines i = heading i ∷ (root_lines i.heap.roots ++ log_lines i.log ++ flat_map (region_lines i) (regions i.heap))

-- the lines of the table of an image: its heading, and the numbers of each region
abbrev pub table_lines : Image → List (List (List ℕ))
table_lines i = heading i ∷ map (region_line i) (regions i.heap)

-- THE TEXT OF LINES, each of these words
abbrev pub text_of : List (List (List ℕ)) → List ℕ
text_of lines = flat_map line_text lines

-- THE FULL TEXT of an image
abbrev pub image_text : Image → List ℕ
image_text i = text_of (image_lines i)
