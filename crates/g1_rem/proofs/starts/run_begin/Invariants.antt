use Rattle.std.proofs.Common.{◌≤◌}
use Rattle.g1_rem.proofs.starts.run_begin.Given as goal

abbrev pub invariant-regions : goal.invariant-regions
invariant-regions l = l.first ≤ l.region

abbrev pub decreases-regions : goal.decreases-regions
decreases-regions l = l.first
