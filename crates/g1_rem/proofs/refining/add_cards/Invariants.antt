use Rattle.std.proofs.Common.{map, take}
use Rattle.g1_rem.specs.Entering.{AreEntering}
use Rattle.g1_rem.proofs.refining.add_cards.Given as goal

abbrev pub invariant-loop-card : goal.invariant-loop-card
invariant-loop-card l = AreEntering l.indexed.heap (take l.card-index l.dirty) (map (λ s. s.items) l.entering)
