use Rattle.std.proofs.Common.{map, take}
use Rattle.g1_rem.specs.Entering.{IsGrown}
use Rattle.g1_rem.proofs.refining.add_card.Given as goal

abbrev pub invariant-loop-p : goal.invariant-loop-p
invariant-loop-p l = IsGrown l.heap l.card (take l.p-index l.slots) (map (λ s. s.items) l.initial.entering) (map (λ s. s.items) l.entering)
