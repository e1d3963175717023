use Rattle.std.proofs.Common.{◌≡◌, ◌-◌, ◌^◌, length, map, take}
use Rattle.std.specs.Prelude.{min, sum_by}
use Rattle.g1_tables.proofs.overview.count_cards.Given as goal

abbrev pub invariant-loop-set : goal.invariant-loop-set
invariant-loop-set l = l.cards ≡ min (sum_by length (map (λ s. s.items) (take l.set-index l.sets))) (2 ^ 64 - 1)
