use Rattle.std.proofs.Common.{◌≤◌, ◌+◌, ◌++◌, List, suc, reverse}
use Rattle.g1_explain.specs.declared.paths.Leg.{Leg}
use Rattle.g1_explain.specs.Searched.{IsRoute}
use Rattle.g1_explain.proofs.keeping.path_back.Given as goal

abbrev pub invariant-legs : goal.invariant-legs
invariant-legs l = record {
  route : (p : List Leg) → IsRoute l.heap l.found l.finders l.from p → IsRoute l.heap l.found l.finders (suc l.fn.index) (p ++ reverse l.path.items);
  within : l.from ≤ l.fn.index + 1;
}

abbrev pub decreases-legs : goal.decreases-legs
decreases-legs l = l.from
