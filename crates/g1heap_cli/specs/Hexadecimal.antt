-- The lines of an image with the data words of its objects in hexadecimal, as `print --hex` has them.
use Rattle.std.specs.Prelude.{◌≡◌, ◌≢◌, ◌<◌, ◌^◌, ◌+◌, ℕ, zero, suc, Bool, true, false, List, [], ◌∷◌, ◌++◌, map, flat_map, codes, decimal, ⊤}
use Rattle.std.specs.Fmt.{digits}
use Rattle.std.specs.List.{AllByRecursion}
use Rattle.g1_words.specs.Heap.{regions, objects_in}
use Rattle.g1_words.specs.declared.object.Object.{Object}
use Rattle.g1_image.specs.Image.{Image, remembered_of}
use Rattle.g1_text.specs.Lines.{reference_word, heading, root_lines, log_lines, region_line, remembered_lines, slot_values, data_values, object_line}

-- a number in hexadecimal, as 0x1f
abbrev pub hexadecimal : ℕ → List ℕ
hexadecimal x = codes "0x" ++ digits 16 false x

-- object A SIZE/SLOTS REFERENCE .. WORD .., with its data words in hexadecimal or not
abbrev pub object_line_in : Bool → List ℕ → Object → List (List ℕ)
object_line_in false = object_line
object_line_in true = λ words o.
    codes "object" ∷ decimal o.at ∷ (decimal o.size ++ 47 ∷ decimal o.refs) ∷ (map reference_word (slot_values words o) ++ map hexadecimal (data_values words o))

-- the lines of a region, and those of an image: all else is the same
abbrev pub region_lines_in : Bool → Image → ℕ → List (List (List ℕ))
region_lines_in hex i r = region_line i r ∷ (remembered_lines r (remembered_of i r) ++ map (object_line_in hex i.heap.words) (objects_in i.heap r))

abbrev pub image_lines_in : Bool → Image → List (List (List ℕ))
image_lines_in hex i = heading i ∷ (root_lines i.heap.roots ++ log_lines i.log ++ flat_map (region_lines_in hex i) (regions i.heap))

-- ---- one line after the other, by its words

-- no byte of the word is a space or the end of a line
abbrev pub IsBare : List ℕ → Type 0
IsBare word = AllByRecursion (λ b. (b ≢ 32) × (b ≢ 10)) word

-- the words of a line, a space between each two
abbrev pub spaced : List (List ℕ) → List ℕ
spaced [] = []
spaced (w ∷ []) = w
spaced (w ∷ v ∷ ws) = w ++ 32 ∷ spaced (v ∷ ws)

-- the words behind the first n are numbers, in decimal and in hexadecimal; the others are the same
abbrev pub AreInHex : ℕ → List (List ℕ) → List (List ℕ) → Type 0
AreInHex n [] [] = ⊤
AreInHex n [] (o ∷ os) = ⊥
AreInHex n (w ∷ ws) [] = ⊥
AreInHex zero (w ∷ ws) (o ∷ os) = ((x : ℕ) × (x < 2 ^ 64) × (w ≡ decimal x) × (o ≡ hexadecimal x)) × AreInHex zero ws os
AreInHex (suc n) (w ∷ ws) (o ∷ os) = IsBare w × (o ≡ w) × AreInHex n ws os

-- the words of a line, and the same with its data words in hexadecimal: that of an object has them behind its name, its address,
-- its sizes and its slots, and no other line has any
pub data HasHex : List (List ℕ) → List (List ℕ) → Type 0 where
  object : {a size slots : ℕ} {words others : List (List ℕ)} → a < 2 ^ 64 → size < 2 ^ 32 → slots < 2 ^ 32
      → AreInHex (3 + slots) (codes "object" ∷ decimal a ∷ (decimal size ++ 47 ∷ decimal slots) ∷ words) others
      → HasHex (codes "object" ∷ decimal a ∷ (decimal size ++ 47 ∷ decimal slots) ∷ words) others
  other : {word : List ℕ} {words : List (List ℕ)} → word ≢ codes "object" → AllByRecursion IsBare (word ∷ words) → HasHex (word ∷ words) (word ∷ words)
