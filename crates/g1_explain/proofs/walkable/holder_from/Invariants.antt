use Rattle.std.proofs.Common.{◌≡◌, ◌-◌}
use Rattle.g1_words.specs.Heap.{object_at}
use Rattle.g1_explain.specs.Keeping.{ReachesHolder}
use Rattle.g1_explain.proofs.walkable.holder_from.Given as goal

abbrev pub invariant-objects : goal.invariant-objects
invariant-objects l = record {
  is : l.object ≡ object_at l.heap l.object.at;
  row : ReachesHolder l.heap l.object.at l.slot;
}

abbrev pub decreases-objects : goal.decreases-objects
decreases-objects l = l.slot - l.object.at
