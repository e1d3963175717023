use Rattle.std.proofs.Common.{◌-◌}
use Rattle.g1_tables.proofs.Counting.{CountedTo}
use Rattle.g1_tables.proofs.show.count_objects.Given as goal

abbrev pub invariant-objects : goal.invariant-objects
invariant-objects l = CountedTo l.fn.heap l.region l.at l.end l.count

abbrev pub decreases-objects : goal.decreases-objects
decreases-objects l = l.end - l.at
