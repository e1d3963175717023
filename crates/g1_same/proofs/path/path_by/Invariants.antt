use Rattle.std.proofs.Common.{◌≤◌, ◌++◌, List, ℕ, length, reverse}
use Rattle.g1_same.specs.Walk.{IsRoute}
use Rattle.g1_same.proofs.path.path_by.Given as goal

abbrev pub invariant-loop-from : goal.invariant-loop-from
invariant-loop-from l = record {
  within : l.from ≤ length l.walk.before.items;
  route : (p : List ℕ) → IsRoute l.walk l.from l.number p → IsRoute l.walk l.fn.way.from l.fn.way.number (p ++ reverse l.slots.items);
}

abbrev pub decreases-loop-from : goal.decreases-loop-from
decreases-loop-from l = l.from
