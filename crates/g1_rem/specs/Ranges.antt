-- The starts of the cards in a range of regions.
use Rattle.std.specs.Prelude.{◌≡◌, ◌<◌, ℕ, ◌+◌, ◌*◌, Option, None, List, length, slice_index_or}
use Rattle.g1_words.specs.Heap.{Heap, start}
pub use Rattle.g1_work.specs.Ranges.{IsRange, IsCut}
use Rattle.g1_rem.specs.Starts.{IsOver}

-- for each card of the regions from one on and before another, the object over its first word
pub record AreStartsBetween (h : Heap) (a b : ℕ) (starts : List (Option ℕ)) : Type 0 where
  pub ends : start h a + length starts * h.geometry.k ≡ start h b
  pub each : (c : ℕ) → c < length starts → IsOver h (start h a + c * h.geometry.k) (slice_index_or starts c None)
