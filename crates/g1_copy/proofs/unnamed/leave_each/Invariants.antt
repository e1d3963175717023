use Rattle.std.proofs.Common.{map}
use Rattle.g1_copy.proofs.RememberedLeft.{LeftTo}
use Rattle.g1_copy.proofs.unnamed.leave_each.Given as goal

abbrev pub invariant-loop-region : goal.invariant-loop-region
invariant-loop-region l = LeftTo l.heap l.fates l.region (map (λ s. s.items) l.initial.sets) (map (λ s. s.items) l.sets)
