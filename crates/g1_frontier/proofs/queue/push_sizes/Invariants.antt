use Rattle.std.proofs.Common.{◌≡◌, ◌++◌, take, map}
use Rattle.g1_frontier.proofs.queue.push_sizes.Given as goal

abbrev pub invariant-loop-object : goal.invariant-loop-object
invariant-loop-object l = l.sizes.items ≡ l.initial.sizes.items ++ map (λ o. o.size) (take l.object-index l.batch)
