use Rattle.std.proofs.Common.{◌≡◌, take, map}
use Rattle.g1_words.specs.Heap.{object_at}
use Rattle.g1_frontier.proofs.queue.read_headers.Given as goal

abbrev pub invariant-loop-at : goal.invariant-loop-at
invariant-loop-at l = l.ahead.items ≡ map (object_at l.heap) (take l.at-index l.addresses)
