-- Regions that keep their rules, found range by range.
use Rattle.std.specs.Prelude.{◌≡◌, ◌≢◌, ◌≤◌, ◌<◌, ℕ, ◌+◌, ◌%◌, List, Bool, Result, Ok, Err, slice_index}
use Rattle.std.specs.List.{range_with_len, AllZip}
use Rattle.g1_words.specs.Heap.{Heap, start}
use Rattle.g1_words.specs.Valid.{IsShaped}
use Rattle.g1_work.specs.Ranges.{IsCut}
use Rattle.g1_image.specs.Draft.{ShapedBelow}
use Rattle.g1_image.specs.Marks.{StartsOf}
use Rattle.g1_image.specs.Faults.{IsFirstBreach}

-- the answer for the regions from one on and below another: marks where their objects start, or the first
-- of them that breaks a rule; what it says of rules rests on all regions before these keeping theirs
abbrev pub AreShaped : Heap → ℕ → ℕ → Result (List Bool) ℕ → Type 0
AreShaped h from to (Ok marks) = StartsOf h from to marks × (ShapedBelow h from → ShapedBelow h to)
AreShaped h from to (Err r) = ShapedBelow h from → IsFirstBreach (IsShaped h) h.geometry.n r

-- the answer for a range of regions, by where each range begins
abbrev pub IsShapedRange : Heap → List ℕ → ℕ → Result (List Bool) ℕ → Type 0
IsShapedRange h begins j part = AreShaped h (slice_index begins j) (slice_index begins (j + 1)) part

-- the answers for the ranges
abbrev pub AreShapedRanges : Heap → List ℕ → ℕ → List (Result (List Bool) ℕ) → Type 0
AreShapedRanges h begins ranges parts = AllZip (IsShapedRange h begins) (range_with_len 0 ranges) parts

-- the mark of the region's first word is the first of 64
abbrev pub BeginsMarks : Heap → ℕ → Type 0
BeginsMarks h r = start h r % 64 ≡ 0

-- the last region, up to one, whose first word's mark is the first of 64
pub record IsMarksBegin (h : Heap) (r begin : ℕ) : Type 0 where
  pub order : begin ≤ r
  pub whole : BeginsMarks h begin
  pub last : (q : ℕ) → begin < q → q ≤ r → start h q % 64 ≢ 0

-- the list has where each range of the regions begins, and the first so many of the ranges begin 64 marks
pub record IsMarksCut (h : Heap) (ranges many : ℕ) (begins : List ℕ) : Type 0 where
  pub cut : IsCut h.geometry.n ranges begins
  pub whole : (j : ℕ) → j < many → BeginsMarks h (slice_index begins j)
