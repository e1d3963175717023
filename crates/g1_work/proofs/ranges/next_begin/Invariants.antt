use Rattle.std.proofs.Common.{◌≤◌, ◌-◌, length}
use Rattle.g1_work.proofs.ranges.next_begin.Given as goal

abbrev pub invariant-regions : goal.invariant-regions
invariant-regions l = (l.fn.from ≤ l.region) × (l.region ≤ length l.regions)

abbrev pub decreases-regions : goal.decreases-regions
decreases-regions l = l.end - l.region
