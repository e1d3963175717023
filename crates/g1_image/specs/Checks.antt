-- What the checks of a heap promise.
use Rattle.std.specs.Prelude.{◌≡◌, ◌⊎◌, ◌*◌, ℕ, List, Bool}
use Rattle.g1_words.specs.Heap.{Heap}
use Rattle.g1_words.specs.Valid.{IsShaped}
use Rattle.g1_words.specs.declared.fault.Fault.{Fault}
use Rattle.g1_words.specs.declared.fault.Fault.TheVariants as fault
use Rattle.g1_words.specs.declared.fault.Place.TheVariants as place
use Rattle.g1_image.specs.Draft.{ShapedBelow}
use Rattle.g1_image.specs.Marks.{StartsAre}
use Rattle.g1_image.specs.Faults.{IsFirstBreach, IsGoodSlot, HeapFault}

-- all regions keep their rules, and the marks are set exactly where objects start
pub record AreShapedStarts (h : Heap) (marks : List Bool) : Type 0 where
  pub starts : StartsAre h marks
  pub shaped : ShapedBelow h h.geometry.n

-- what a check of the regions may answer: the first that breaks a rule, or that memory is wanted
abbrev pub ShapesMayFail : Heap → Fault → Type 0
ShapesMayFail h e = (e ≡ fault.Memory) ⊎ ((r : ℕ) × (e ≡ fault.Shape r) × IsFirstBreach (IsShaped h) h.geometry.n r)

-- the first slot that references no object
abbrev pub IsStrayFault : Heap → Fault → Type 0
IsStrayFault h e = (p : ℕ) × (e ≡ fault.Reference (place.Slot p)) × IsFirstBreach (IsGoodSlot h) (h.geometry.n * h.geometry.w) p

-- what a check of the heap may answer: the first rule that it breaks, or that memory is wanted
abbrev pub HeapMayFail : Heap → Fault → Type 0
HeapMayFail h e = (e ≡ fault.Memory) ⊎ HeapFault h e
