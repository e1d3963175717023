use Rattle.std.proofs.Common.{◌≡◌, drop}
use Rattle.g1_work.specs.Ranges.{first_some}
use Rattle.g1_work.proofs.ranges.first_found.Given as goal

abbrev pub invariant-loop-slot : goal.invariant-loop-slot
invariant-loop-slot l = first_some l.found ≡ first_some (drop l.slot-index l.found)
