use Rattle.std.proofs.Common.{◌≡◌, take, flat_map}
use Rattle.g1_frontier.proofs.rooms.join_lists.Given as goal

abbrev pub invariant-loop-list : goal.invariant-loop-list
invariant-loop-list l = l.all.items ≡ flat_map (λ s. s.items) (take l.list-index l.lists)
