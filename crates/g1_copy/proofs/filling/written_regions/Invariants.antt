use Rattle.std.proofs.Common.{◌≤◌, ◌<◌, ℕ, length}
use Rattle.g1_copy.specs.Prepared.{IsUnwritten}
use Rattle.g1_copy.proofs.filling.written_regions.Given as goal

-- nothing is written into the regions that were passed
abbrev pub invariant-loop-regions : goal.invariant-loop-regions
invariant-loop-regions l = (l.regions ≤ length l.prepared.fates) × ((r : ℕ) → l.regions ≤ r → r < length l.prepared.fates → IsUnwritten l.prepared r)

abbrev pub decreases-loop-regions : goal.decreases-loop-regions
decreases-loop-regions l = l.regions
