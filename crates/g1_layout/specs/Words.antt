-- The table that tells new addresses: a mark for each word of the set's regions, found by arithmetic, and a place for each mark.
use Rattle.std.specs.Prelude.{◌≡◌, ◌<◌, ℕ, Bool, false, true, ◌+◌, ◌*◌, ◌/◌, ◌%◌, List, Option, Some, None, length, slice_index, slice_index_or}
use Rattle.g1_words.specs.Numbers.{number_at, number_of}

-- by region number: the position of the region in the set, and none for any other region
pub record ArePositions (set : List ℕ) (positions : List (Option ℕ)) : Type 0 where
  pub sound : (r p : ℕ) → slice_index_or positions r None ≡ Some p → (p < length set) × (slice_index set p ≡ r)
  pub whole : (p : ℕ) → p < length set → slice_index_or positions (slice_index set p) None ≡ Some p

-- the index of an offset in the region of a position
abbrev pub index_at : Option ℕ → ℕ → ℕ → Option ℕ
index_at None w o = None
index_at (Some p) w o = Some (p * w + o)

-- the index of an address
abbrev pub index_of : ℕ → List (Option ℕ) → ℕ → Option ℕ
index_of w positions a = index_at (slice_index_or positions (a / w) None) w (a % w)

-- the address has an index
abbrev pub HasIndex : ℕ → List (Option ℕ) → ℕ → Type 0
HasIndex w positions a = (i : ℕ) × (index_of w positions a ≡ Some i)

-- each index is that of one address, and is below a bound
pub record AreIndices (w : ℕ) (positions : List (Option ℕ)) (bound : ℕ) : Type 0 where
  pub one_to_one : (a b i : ℕ) → index_of w positions a ≡ Some i → index_of w positions b ≡ Some i → a ≡ b
  pub within : (a i : ℕ) → index_of w positions a ≡ Some i → i < bound

-- the marks are those at the indices of the first n addresses
pub record AreMarkedTo (w : ℕ) (positions : List (Option ℕ)) (l : List ℕ) (n : ℕ) (marks : List Bool) : Type 0 where
  pub each : (k i : ℕ) → k < n → index_of w positions (slice_index l k) ≡ Some i → slice_index_or marks i false ≡ true
  pub only : (i : ℕ) → slice_index_or marks i false ≡ true → (k : ℕ) × ((k < n) × (index_of w positions (slice_index l k) ≡ Some i))

-- the numbers of the first n addresses' marks lead to their places
abbrev pub ArePlacedTo : ℕ → List (Option ℕ) → List Bool → List ℕ → List ℕ → ℕ → List ℕ → Type 0
ArePlacedTo w positions marks l places n by_number =
    (k i : ℕ) → k < n → index_of w positions (slice_index l k) ≡ Some i → slice_index by_number (number_at marks i) ≡ slice_index places k

-- what a number tells of an address: the place of that number, and where there is no number the address itself
abbrev pub told : Option ℕ → List ℕ → ℕ → ℕ
told None by_number a = a
told (Some n) by_number a = slice_index by_number n

-- what the mark at an index tells of an address, and the address itself where there is no index
abbrev pub told_at : Option ℕ → List Bool → List ℕ → ℕ → ℕ
told_at None marks by_number a = a
told_at (Some i) marks by_number a = told (number_of marks i) by_number a

-- what the table tells for an address
abbrev pub goes_to : ℕ → List (Option ℕ) → List Bool → List ℕ → ℕ → ℕ
goes_to w positions marks by_number a = told_at (index_of w positions a) marks by_number a

-- each index is that of one address and has a mark or none, and there is a place for each mark
pub record IsTable (w : ℕ) (positions : List (Option ℕ)) (marks : List Bool) (by_number : List ℕ) : Type 0 where
  pub indices : AreIndices w positions (length marks)
  pub one_each : length by_number ≡ number_at marks (length marks)
