-- A walk over two heaps between two differences.
use Rattle.std.specs.Prelude.{◌<◌, ◌≤◌, ℕ, length, slice_index}
use Rattle.g1_words.specs.Heap.{Heap}
use Rattle.g1_same.specs.declared.walk.Walk.{Walk}
use Rattle.g1_same.specs.declared.differences.Differences.{Differences}
use Rattle.g1_same.specs.Walk.{AreAlike, IsTour, IsEarlier, IsBelow}

-- the pairs that the second walk has and the first one has not are alike, except one that this way found
abbrev pub FindsAlikeUntil : Heap → Heap → Walk → Walk → ℕ → ℕ → Type 0
FindsAlikeUntil g h w v f n =
    (i : ℕ) → length w.before.items ≤ i → i < length v.before.items
    → IsEarlier (slice_index v.from.items i) (slice_index v.number.items i) f n
    → AreAlike g h (slice_index v.before.items i) (slice_index v.after.items i)

-- the walk may go on at its way
pub record IsUnderway (d : Differences) : Type 0 where
  pub walk : IsTour d.before.now d.after.now d.walk
  pub below : IsBelow d.walk d.way.from d.way.number
