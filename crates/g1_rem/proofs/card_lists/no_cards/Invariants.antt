use Rattle.std.proofs.Common.{◌≡◌, replicate, map, []}
use Rattle.g1_rem.proofs.card_lists.no_cards.Given as goal

abbrev pub invariant-loop-i : goal.invariant-loop-i
invariant-loop-i l = map (λ s. s.items) l.remembered.items ≡ replicate l._i []
