-- Lines that are put in order by a key.
use Rattle.std.specs.Prelude.{List}
use Rattle.std.specs.declared.cmp.Ordering.{Ordering}
use Rattle.std.specs.List.Sorted.{IsPermutation, IsSortedByKey, IsStableByKey}

-- THE SAME LINES, by a key that does not fall: those of one key stand as they stood
pub record IsPutInOrder {X K : Type 0} (key : X → K) (cmp : K → K → Ordering) (before after : List X) : Type 0 where
  pub same : IsPermutation before after
  pub rise : IsSortedByKey key cmp after
  pub stable : IsStableByKey key cmp before after
