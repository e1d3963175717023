use Rattle.std.proofs.Common.{◌≡◌, ◌++◌, map, take}
use Rattle.g1_explain.proofs.remembering.add_pairs.Given as goal

abbrev pub invariant-loop-card : goal.invariant-loop-card
invariant-loop-card l = l.gained.items ≡ l.initial.gained.items ++ map (λ c. (c, l.region)) (take l.card-index l.cards)
