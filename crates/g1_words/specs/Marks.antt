-- Marks that are kept as the bits of words.
use Rattle.std.specs.Prelude.{◌≡◌, ◌≤◌, ◌<◌, ℕ, List, Bool, true, false, Option, None, Some, ◌/◌, ◌%◌, ◌==◌, ◌||◌, map, length, slice_index, slice_index_or}
use Rattle.std.specs.List.{range_with_len}
use Rattle.std.specs.Int.{bit_at}

-- whether the mark of a number is set: it is a bit of the 64th part of the number
abbrev pub is_set : List ℕ → ℕ → Bool
is_set bits a = bit_at (slice_index bits (a / 64)) (a % 64) == 1

-- the first marks, so many
abbrev pub marks_of : ℕ → List ℕ → List Bool
marks_of count bits = map (is_set bits) (range_with_len 0 count)

-- no mark is set from a number on and below another
abbrev pub AreUnset : List Bool → ℕ → ℕ → Type 0
AreUnset marks from to = (x : ℕ) → from ≤ x → x < to → slice_index_or marks x false ≡ false

-- a mark is the first that is set, from a number on
pub record IsFirstSet (marks : List Bool) (from at : ℕ) : Type 0 where
  pub reached : from ≤ at
  pub within : at < length marks
  pub set : slice_index_or marks at false ≡ true
  pub unset : AreUnset marks from at

-- the answer is that mark, or none if no mark from the number on is set
abbrev pub IsNextSet : List Bool → ℕ → Option ℕ → Type 0
IsNextSet marks from None = AreUnset marks from (length marks)
IsNextSet marks from (Some at) = IsFirstSet marks from at

-- the marks of those that pass a test were set, beside those that were
pub record AreMarked (test : ℕ → Bool) (old new : List Bool) : Type 0 where
  pub one_each : length new ≡ length old
  pub each : (x : ℕ) → x < length old → slice_index_or new x false ≡ (slice_index_or old x false || test x)
