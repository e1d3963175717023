-- The numbers of marked words.
use Rattle.std.specs.Prelude.{◌≡◌, ◌<◌, ℕ, Bool, true, false, List, [], ◌∷◌, ◌+◌, ◌*◌, ◌^◌, Option, None, Some, map, take, length, slice_index_or, count_ones}
use Rattle.std.specs.List.{count_by}
use Rattle.g1_words.specs.Marks.{marks_of}
use Rattle.g1_words.specs.declared.numbers.Block.{Block}

-- how many of the words before one are marked
abbrev pub number_at : List Bool → ℕ → ℕ
number_at marks p = count_by (λ b. b) (take p marks)

-- a number, where there is one
abbrev pub number_if : Bool → ℕ → Option ℕ
number_if true n = Some n
number_if false n = None

-- how many of the words before a marked one are marked, and none where the word isn't
abbrev pub number_of : List Bool → ℕ → Option ℕ
number_of marks p = number_if (slice_index_or marks p false) (number_at marks p)

-- the marks of the blocks' words, one bit each
abbrev pub marks_in : List Block → List Bool
marks_in blocks = marks_of (64 * length blocks) (map (λ b. b.marks) blocks)

-- each block has the number of marks in the blocks before it, counted on from one
abbrev pub AreCounted : ℕ → List Block → Type 0
AreCounted n [] = Unit {0}
AreCounted n (b ∷ bs) = (b.before ≡ n) × (b.marks < 2 ^ 64) × AreCounted (n + count_ones b.marks) bs

-- the number after the blocks' marks, counted on from one
abbrev pub counted_on : ℕ → List Block → ℕ
counted_on n [] = n
counted_on n (b ∷ bs) = counted_on (n + count_ones b.marks) bs
