-- A list that is cut into slices of one width.
use Rattle.std.specs.Prelude.{◌≡◌, ℕ, ◌+◌, ◌*◌, ◌/◌, ◌^◌, ◌<◌, List, length, take, drop}

-- slice r of xs, from 0, each w long
abbrev pub slice_of : {A : Type 0} → ℕ → ℕ → List A → List A
slice_of w r xs = take w (drop (r * w) xs)

-- P holds of each slice and its number
abbrev pub EverySlice : (ℕ → List ℕ → Type 0) → ℕ → List ℕ → Type 0
EverySlice P w xs = (r : ℕ) → r < length xs / w → P r (slice_of w r xs)

-- R holds of each slice's number, the slice before and the slice after
abbrev pub EveryChange : (ℕ → List ℕ → List ℕ → Type 0) → ℕ → List ℕ → List ℕ → Type 0
EveryChange R w xs ys = (r : ℕ) → r < length xs / w → R r (slice_of w r xs) (slice_of w r ys)

-- xs is so many slices, the first of which is slice first of the whole, and P holds of each
pub record HoldsOfSlices (P : ℕ → List ℕ → Type 0) (w first count : ℕ) (xs : List ℕ) : Type 0 where
  pub size : length xs ≡ count * w
  pub room : first + count < 2 ^ 64
  pub each : (k : ℕ) → k < count → P (first + k) (slice_of w k xs)

-- ys is as many slices, and R holds of each before and after
pub record IsFilled (R : ℕ → List ℕ → List ℕ → Type 0) (w first count : ℕ) (xs ys : List ℕ) : Type 0 where
  pub size : length ys ≡ length xs
  pub each : (k : ℕ) → k < count → R (first + k) (slice_of w k xs) (slice_of w k ys)
