-- The words of regions, the regions cut into ranges that follow one another, and what is found in ranges.
use Rattle.std.specs.Prelude.{◌≡◌, ◌≤◌, ◌<◌, ℕ, ◌+◌, List, [], ◌∷◌, Option, None, Some, length, filter, sum_by, slice_index}
use Rattle.g1_words.specs.Heap.{is_ordinary}
use Rattle.g1_words.specs.declared.region.Region.{Region}

-- how many words of these regions are used
abbrev pub used : List Region → ℕ
used regions = sum_by (λ r. r.top) regions

-- how many words of the ordinary ones among them are used
abbrev pub ordinary_used : List Region → ℕ
ordinary_used regions = used (filter (λ r. is_ordinary r.kind) regions)

-- range j of the regions below n, by where each range begins
pub record IsRange (n : ℕ) (begins : List ℕ) (j : ℕ) : Type 0 where
  pub there : j + 1 < length begins
  pub order : slice_index begins j ≤ slice_index begins (j + 1)
  pub within : slice_index begins (j + 1) ≤ n

-- the list has where each range of the regions below n begins, and at last where the last one ends
pub record IsCut (n ranges : ℕ) (begins : List ℕ) : Type 0 where
  pub count : length begins ≡ ranges + 1
  pub first : slice_index begins 0 ≡ 0
  pub last : slice_index begins ranges ≡ n
  pub each : (j : ℕ) → j < ranges → IsRange n begins j

-- the first value that a list has
abbrev pub first_some : List (Option ℕ) → Option ℕ
first_some [] = None
first_some (Some x ∷ xs) = Some x
first_some (None ∷ xs) = first_some xs
