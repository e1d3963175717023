use Rattle.std.proofs.Common.{◌≡◌, ◌-◌, take}
use Rattle.g1_words.specs.Geometry.{most_words}
use Rattle.g1_words.specs.Layout.{sizes_of}
use Rattle.g1_frontier.specs.Queue.{IsUnderWay}
use Rattle.g1_frontier.proofs.queue.search_alone.Given as goal

abbrev pub invariant-loop-from : goal.invariant-loop-from
invariant-loop-from l = record {
  queue : IsUnderWay l.scope l.from l.queue;
  sizes : l.sizes.items ≡ sizes_of l.scope.heap.now (take l.from l.queue.found.items);
}

abbrev pub decreases-loop-from : goal.decreases-loop-from
decreases-loop-from l = most_words - l.from
