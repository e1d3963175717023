use Rattle.std.proofs.Common.{◌-◌}
use Rattle.g1_rem.proofs.Leading.{Taking}
use Rattle.g1_rem.proofs.entries.Entering.take_region.Given as goal

abbrev pub invariant-objects : goal.invariant-objects
invariant-objects l = Taking l.self.image.now l.self.region l.region l.at l.end l.cards.items

abbrev pub decreases-objects : goal.decreases-objects
decreases-objects l = l.end - l.at
