-- The forms of lines: which words may stand in a line, one after the other, in the full form and in the short ones.
use Rattle.std.specs.Prelude.{◌≡◌, ◌≢◌, ◌⊎◌, ◌<◌, ◌+◌, ◌-◌, ◌*◌, ◌%◌, ◌^◌, ℕ, zero, suc, Some, false, List, [], ◌∷◌, ◌++◌, length, take, codes, bit_xor, is_nan, to_bits, All, IsUtf8}
use lib.Ieee.{Float, binary64}
use Rattle.std.specs.List.{AllZip}
use Rattle.std.specs.Str.Parse.{IsNumeral, digits_value}
use Rattle.std.specs.Float.Parse.{parse_float}
use Rattle.g1_words.specs.Geometry.{IsWithinBounds}
use Rattle.g1_words.specs.Kind.{kind_word}
use Rattle.g1_words.specs.declared.region.Kind.{Kind}
use Rattle.g1_words.specs.declared.region.Kind.TheVariants.{Ordinary}
use Rattle.g1_text.specs.Reading.{parts_of, lines_in}

-- WORDS

-- a word is digits alone, at least one; this is the number that they say, and it is below a bound
abbrev pub Spells : ℕ → ℕ → List ℕ → Type 0
Spells bound n word = IsNumeral 10 word × (digits_value 10 word ≡ n) × (n < bound)

-- a word is a number below a bound
abbrev pub IsBelow : ℕ → List ℕ → Type 0
IsBelow bound word = (n : ℕ) × Spells bound n word

-- a word stands for this reference word: `-` for null, or the address of an object
abbrev pub Denotes : ℕ → List ℕ → Type 0
Denotes zero word = word ≡ codes "-"
Denotes (suc address) word = Spells (2 ^ 64 - 1) address word

-- a word is a reference
abbrev pub IsReferenceWord : List ℕ → Type 0
IsReferenceWord word = (x : ℕ) × Denotes x word

-- a word is the current region, or `none`
abbrev pub IsCurrentWord : List ℕ → Type 0
IsCurrentWord word = (word ≡ codes "none") ⊎ IsBelow (2 ^ 32) word

-- SIZE/SLOTS: an object's words and its slots, two numbers with a slash between them
abbrev pub HasSize : ℕ → ℕ → List ℕ → Type 0
HasSize size slots word = (front back : List ℕ) × (word ≡ front ++ 47 ∷ back) × Spells (2 ^ 64) size front × Spells (2 ^ 64) slots back

-- what a slot or a root may have in place of an address: `-`, or a name
abbrev pub IsTarget : List ℕ → Type 0
IsTarget word = word ≢ codes ".."

-- a word may be the name of an object
abbrev pub IsName : List ℕ → Type 0
IsName word = (word ≢ codes "-") × (word ≢ codes "..")

-- DATA WORDS, as people write them: each has this word of 64 bits

-- a minus and digits, from -2^63 on: the number that makes 2^64 with it, or 0
abbrev pub Negates : ℕ → List ℕ → Type 0
Negates n word = (digits : List ℕ) × (m : ℕ) × (word ≡ 45 ∷ digits) × Spells (2 ^ 63 + 1) m digits × (n ≡ (2 ^ 64 - m) % 2 ^ 64)

-- `0x` and hexadecimal digits
abbrev pub HasHexDigits : ℕ → List ℕ → Type 0
HasHexDigits n word = (digits : List ℕ) × (word ≡ 48 ∷ 120 ∷ digits) × IsNumeral 16 digits × (digits_value 16 digits ≡ n) × (n < 2 ^ 64)

-- a number with a point: the bits of the nearest double
abbrev pub HasPoint : ℕ → List ℕ → Type 0
HasPoint n word = (front back : List ℕ) × (x : Float) × (word ≡ front ++ 46 ∷ back) × (parse_float binary64 word ≡ Some x) × (is_nan x ≡ false) × (n ≡ to_bits binary64 x)

-- the hash of bytes behind others, whose hash is h: FNV-1a of 64 bits
abbrev pub hash_behind : ℕ → List ℕ → ℕ
hash_behind h [] = h
hash_behind h (byte ∷ bytes) = hash_behind ((bit_xor h byte * 1099511628211) % 2 ^ 64) bytes

abbrev pub hash_of : List ℕ → ℕ
hash_of bytes = hash_behind 14695981039346656037 bytes

-- a text in quotes: the hash of its bytes
abbrev pub Quotes : ℕ → List ℕ → Type 0
Quotes n word = (inner : List ℕ) × (word ≡ 34 ∷ (inner ++ 34 ∷ [])) × (n ≡ hash_of inner)

-- a word stands for this word of 64 bits
abbrev pub StandsFor : ℕ → List ℕ → Type 0
StandsFor n word = Spells (2 ^ 64) n word ⊎ Negates n word ⊎ HasHexDigits n word ⊎ Quotes n word ⊎ HasPoint n word

-- a word is a data word
abbrev pub IsDataWord : List ℕ → Type 0
IsDataWord word = (n : ℕ) × StandsFor n word

-- FORMS

-- a form: which words are of it
abbrev pub Form : Type 1
Form = List (List ℕ) → Type 0

-- this one word
abbrev pub Word : List ℕ → Form
Word word words = words ≡ word ∷ []

-- one word of a sort
abbrev pub Single : (List ℕ → Type 0) → Form
Single Sort words = (word : List ℕ) × (words ≡ word ∷ []) × Sort word

-- so many words of a sort
abbrev pub Many : (List ℕ → Type 0) → ℕ → Form
Many Sort n words = (length words ≡ n) × All Sort words

-- words of this form, or none
abbrev pub Maybe : Form → Form
Maybe form [] = Unit {0}
Maybe form (word ∷ words) = form (word ∷ words)

-- words of one form, and behind them words of another
infixr 6 ◌▸◌
abbrev pub ◌▸◌ : Form → Form → Form
(first ▸ second) words = (front back : List (List ℕ)) × (words ≡ front ++ back) × first front × second back

-- one number
abbrev pub Number : Form
Number = Single (IsBelow (2 ^ 64))

-- the sizes of a heap: W K N
abbrev pub Sizes : Form
Sizes words = (w k n : ℕ) × IsWithinBounds w k n × (Single (Spells (2 ^ 64) w) ▸ Single (Spells (2 ^ 64) k) ▸ Single (Spells (2 ^ 64) n)) words

-- this word and a number behind it, or neither
abbrev pub Labelled : List ℕ → Form
Labelled word = Maybe (Word word ▸ Number)

-- cards CARD ..
abbrev pub Cards : Form
Cards = Word (codes "cards") ▸ All (IsBelow (2 ^ 32))

-- all these words; or the first ones, and `..` for the others
abbrev pub Abridges : List (List ℕ) → Form
Abridges whole words = (words ≡ whole) ⊎ ((n : ℕ) × (words ≡ take n whole ++ codes ".." ∷ []))

-- SLOT .. WORD .. [..]: so many slots of a sort, and so many data words
abbrev pub Holding : (List ℕ → Type 0) → ℕ → ℕ → Form
Holding Slot slots data_words words =
    (references values : List (List ℕ)) × Many Slot slots references × Many IsDataWord data_words values × Abridges (references ++ values) words

-- SIZE/SLOTS SLOT .. WORD .. [..]: one word is the header, and a heap has fewer than 2^32 words
abbrev pub SizeAndWords : (List ℕ → Type 0) → Form
SizeAndWords Slot words = (size slots : ℕ) × (slots < size) × (size < 2 ^ 32) × (Single (HasSize size slots) ▸ Holding Slot slots (size - slots - 1)) words

-- [pinned], of an ordinary region
abbrev pub Pinned : Kind → Form
Pinned Ordinary words = Maybe (Word (codes "pinned")) words
Pinned _ words = words ≡ []

-- KIND [top WORDS] [objects COUNT] [cards COUNT] [pinned]
abbrev pub KindAndCounts : Form
KindAndCounts words = (kind : Kind) × (Word (kind_word kind) ▸ Labelled (codes "top") ▸ Labelled (codes "objects") ▸ Labelled (codes "cards") ▸ Pinned kind) words

-- [current none|C]
abbrev pub Current : Form
Current = Maybe (Word (codes "current") ▸ Single IsCurrentWord)

-- THE LINES OF AN IMAGE

-- heap W K N [roots R] [dirty D] [current none|C]
abbrev pub ImageHeading : Form
ImageHeading = Word (codes "heap") ▸ Sizes ▸ Labelled (codes "roots") ▸ Labelled (codes "dirty") ▸ Current

-- root [NUMBER] REFERENCE
abbrev pub RootLine : Form
RootLine = Word (codes "root") ▸ Maybe Number ▸ Single IsReferenceWord

-- dirty cards CARD ..
abbrev pub DirtyLine : Form
DirtyLine = Word (codes "dirty") ▸ Cards

-- covered
abbrev pub CoveredLine : Form
CoveredLine = Word (codes "covered")

-- region [NUMBER] KIND [top WORDS] [objects COUNT] [cards COUNT] [pinned]
abbrev pub RegionLine : Form
RegionLine = Word (codes "region") ▸ Maybe Number ▸ KindAndCounts

-- remembered REGION cards CARD ..
abbrev pub RememberedLine : Form
RememberedLine = Word (codes "remembered") ▸ Number ▸ Cards

-- object [ADDRESS] SIZE/SLOTS REFERENCE .. WORD .. [..]
abbrev pub ObjectLine : Form
ObjectLine = Word (codes "object") ▸ Maybe Number ▸ SizeAndWords IsReferenceWord

-- a line below the heading
abbrev pub ImageLine : Form
ImageLine words = RootLine words ⊎ DirtyLine words ⊎ CoveredLine words ⊎ RegionLine words ⊎ RememberedLine words ⊎ ObjectLine words

-- THE LINES OF OBJECTS BY NAME

-- graph [W K N]
abbrev pub GraphHeading : Form
GraphHeading = Word (codes "graph") ▸ Maybe Sizes

-- root NAME [as HOLDER]
abbrev pub NamedRootLine : Form
NamedRootLine = Word (codes "root") ▸ Single IsTarget ▸ Maybe (Word (codes "as") ▸ Single IsName)

-- object NAME SIZE/SLOTS NAME .. WORD .. [..]
abbrev pub NamedObjectLine : Form
NamedObjectLine = Word (codes "object") ▸ Single IsName ▸ SizeAndWords IsTarget

-- a line below the heading
abbrev pub GraphLine : Form
GraphLine words = NamedRootLine words ⊎ NamedObjectLine words

-- ALL LINES HAVE A MEANING: the first one has the form of a heading, and each other one that of a line below it
abbrev pub HaveForms : (heading below : Form) → List (List (List ℕ)) → Type 0
HaveForms heading below [] = ⊥
HaveForms heading below (line ∷ lines) = heading line × All below lines

-- a text has lines, and each word of them has a meaning
pub record HasMeaning (heading below : Form) (text : List ℕ) : Type 0 where
  pub utf8 : All IsUtf8 (parts_of text)
  pub lines : HaveForms heading below (lines_in text)

-- READING

-- words of this form were read, and the others are left
abbrev pub HasFront : Form → List (List ℕ) → List (List ℕ) → Type 0
HasFront form before left = (front : List (List ℕ)) × (before ≡ front ++ left) × form front

-- the next word was read, and it is of this sort
abbrev pub HasFirst : (List ℕ → Type 0) → List (List ℕ) → List (List ℕ) → Type 0
HasFirst Sort before left = (word : List ℕ) × (before ≡ word ∷ left) × Sort word

-- so many data words were read, and these words stand for them
abbrev pub HasValues : ℕ → List ℕ → List (List ℕ) → List (List ℕ) → Type 0
HasValues count values before left = (front : List (List ℕ)) × (before ≡ front ++ left) × (length front ≡ count) × AllZip StandsFor values front

-- no next word is of this sort
abbrev pub HasNoFirst : (List ℕ → Type 0) → List (List ℕ) → Type 0
HasNoFirst Sort words = (word : List ℕ) (left : List (List ℕ)) → words ≡ word ∷ left → Sort word → ⊥
