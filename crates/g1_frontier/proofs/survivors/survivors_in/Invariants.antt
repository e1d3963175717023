use Rattle.std.proofs.Common.{◌-◌, length}
use Rattle.g1_frontier.specs.Search.{IsSearching}
use Rattle.g1_frontier.proofs.survivors.survivors_in.Given as goal

abbrev pub invariant-loop-search : goal.invariant-loop-search
invariant-loop-search g l = IsSearching l.scope l.search

abbrev pub decreases-loop-search : goal.decreases-loop-search
decreases-loop-search g l = length l.scope.heap.now.words - l.search.from
