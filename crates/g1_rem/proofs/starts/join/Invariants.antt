use Rattle.std.proofs.Common.{◌≡◌, take, flat_map}
use Rattle.g1_rem.proofs.starts.join.Given as goal

abbrev pub invariant-loop-list : goal.invariant-loop-list
invariant-loop-list l = l.all.items ≡ flat_map (λ s. s.items) (take l.list-index l.lists)
