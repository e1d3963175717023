-- Slots that reference no object, found range by range.
use Rattle.std.specs.Prelude.{◌≤◌, ◌<◌, ℕ, ◌+◌, ◌*◌, List, Option, None, Some, slice_index}
use Rattle.g1_words.specs.Heap.{Heap, start}
use Rattle.g1_words.specs.Valid.{HasObject, IsSlotOf, IsReference}
use Rattle.g1_words.specs.declared.object.Object.{Object}
use Rattle.g1_image.specs.Faults.{IsFirstBreach}

-- the slots of the objects that start from one address on and before another are null or reference objects
abbrev pub SlotsBetween : Heap → ℕ → ℕ → Type 0
SlotsBetween h from to = (o : Object) (p : ℕ) → HasObject h o → from ≤ o.at → o.at < to → IsSlotOf o p → IsReference h (slice_index h.words p)

-- if the address is that of a slot of an object that starts from another on, the slot is null or references an object
abbrev pub IsGoodFrom : Heap → ℕ → ℕ → Type 0
IsGoodFrom h from p = (o : Object) → HasObject h o → from ≤ o.at → IsSlotOf o p → IsReference h (slice_index h.words p)

-- the answer is the first slot that does neither, of the objects that start between two addresses
abbrev pub IsFirstStray : Heap → ℕ → ℕ → Option ℕ → Type 0
IsFirstStray h from to None = SlotsBetween h from to
IsFirstStray h from to (Some p) = IsFirstBreach (IsGoodFrom h from) (h.geometry.n * h.geometry.w) p

-- the answer is the first of all of them
abbrev pub IsFirstStrayOf : Heap → Option ℕ → Type 0
IsFirstStrayOf h found = IsFirstStray h 0 (h.geometry.n * h.geometry.w) found

-- the answer is the first of those in a range of regions, by where each range begins
abbrev pub IsFirstStrayIn : Heap → List ℕ → ℕ → Option ℕ → Type 0
IsFirstStrayIn h begins j found = IsFirstStray h (start h (slice_index begins j)) (start h (slice_index begins (j + 1))) found

-- no object starts from an address on and before the end of a region, if it starts in the region
abbrev pub StartBefore : Heap → ℕ → ℕ → Type 0
StartBefore h r end = (o : Object) → HasObject h o → start h r ≤ o.at → o.at < start h (r + 1) → o.at < end
