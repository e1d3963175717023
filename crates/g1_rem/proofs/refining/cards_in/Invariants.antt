use Rattle.std.proofs.Common.{◌≡◌, ◌-◌, ◌^◌, min, length, take, sum_by}
use Rattle.g1_rem.proofs.refining.cards_in.Given as goal

abbrev pub invariant-loop-list : goal.invariant-loop-list
invariant-loop-list l = l.count ≡ min (sum_by (λ s. length s.items) (take l.list-index l.lists)) (2 ^ 64 - 1)
