-- The bytes of an image file, before its heap is looked at: numbers in a fixed order, little endian.
use Rattle.std.specs.Prelude.{ℕ, List, [], ◌∷◌, ◌++◌, length, flat_map, zero, suc, drop, sum_by}
use Rattle.g1_image.specs.declared.cursor.Heading.{Heading}
pub use Rattle.g1_image.specs.declared.cursor.Entry.{Entry}
pub use Rattle.g1_image.specs.declared.cursor.Version.{Version}
use Rattle.g1_image.specs.declared.cursor.Version.TheVariants.{One, Two}
use Rattle.byteorder.specs.Endian.{little_bytes, little_number}

-- what stands in the file
pub record File : Type 0 where
  pub version : Version
  pub w : ℕ
  pub k : ℕ
  pub n : ℕ
  pub current : ℕ
  pub table : List Entry
  pub roots : List ℕ
  pub log : List ℕ
  pub remembered : List (List ℕ)
  pub words : List ℕ

-- four bytes, the low one first
unfoldable pub u32 : ℕ → List ℕ
u32 x = little_bytes 4 x

-- eight bytes, the low one first
unfoldable pub u64 : ℕ → List ℕ
u64 x = little_bytes 8 x

-- the last byte of the magic, a digit
abbrev pub digit : Version → ℕ
digit One = 49
digit Two = 50

-- `G1IMAGE1` or `G1IMAGE2`
abbrev pub magic : Version → List ℕ
magic v = 71 ∷ 49 ∷ 73 ∷ 77 ∷ 65 ∷ 71 ∷ 69 ∷ digit v ∷ []

-- the flags of a region, which version 1 doesn't have
abbrev pub flags_text : Version → ℕ → List ℕ
flags_text One flags = []
flags_text Two flags = u32 flags

-- an entry of the region table: the kind, the top, the flags
abbrev pub entry_text : Version → Entry → List ℕ
entry_text v e = u32 e.kind ++ (u32 e.top ++ flags_text v e.flags)

-- numbers of four bytes, one after another
abbrev pub numbers_text : List ℕ → List ℕ
numbers_text xs = flat_map u32 xs

-- words of eight bytes, one after another
abbrev pub words_text : List ℕ → List ℕ
words_text xs = flat_map u64 xs

-- the region table
abbrev pub table_text : Version → List Entry → List ℕ
table_text v es = flat_map (entry_text v) es

-- a remembered set: how many cards, and the cards
abbrev pub remembered_text : List ℕ → List ℕ
remembered_text cards = u32 (length cards) ++ numbers_text cards

-- the remembered sets, one after another
abbrev pub remembered_texts : List (List ℕ) → List ℕ
remembered_texts remembered = flat_map remembered_text remembered

-- the heading: the sizes, how many roots and logged cards, the current region
abbrev pub heading_text : Heading → List ℕ
heading_text h = u32 h.w ++ (u32 h.k ++ (u32 h.n ++ (u32 h.roots ++ (u32 h.dirty ++ u32 h.current))))

-- the heading that a file has
abbrev pub heading_of : File → Heading
heading_of f = record { w = f.w; k = f.k; n = f.n; roots = length f.roots; dirty = length f.log; current = f.current }

-- what stands behind the heading
abbrev pub body_text : File → List ℕ
body_text f = table_text f.version f.table ++ (words_text f.roots ++ (numbers_text f.log ++ (remembered_texts f.remembered ++ words_text f.words)))

-- the whole text of a file
abbrev pub file_text : File → List ℕ
file_text f = magic f.version ++ (heading_text (heading_of f) ++ body_text f)

-- the number of 64 bits in the first bytes
unfoldable pub read_word : List ℕ → ℕ
read_word bytes = little_number 8 bytes

-- the first n numbers of 64 bits
abbrev pub words_of : ℕ → List ℕ → List ℕ
words_of zero bytes = []
words_of (suc n) bytes = read_word bytes ∷ words_of n (drop 8 bytes)

-- how many words the table announces
abbrev pub table_words : List Entry → ℕ
table_words es = sum_by (λ e. e.top) es
