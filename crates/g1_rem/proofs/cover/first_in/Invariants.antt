use Rattle.std.proofs.Common.{◌-◌}
use Rattle.g1_rem.proofs.Walks.{Asking}
use Rattle.g1_rem.proofs.cover.first_in.Given as goal

abbrev pub invariant-objects : goal.invariant-objects
invariant-objects l = Asking l.fn.image l.region l.at l.end l.places

abbrev pub decreases-objects : goal.decreases-objects
decreases-objects l = l.end - l.at
