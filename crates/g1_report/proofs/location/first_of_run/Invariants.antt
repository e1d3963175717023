use Rattle.std.proofs.Common.{ℕ, ◌<◌, ◌≤◌}
use Rattle.g1_report.specs.Location.{GoesOn}
use Rattle.g1_report.proofs.location.first_of_run.Given as goal

abbrev pub invariant-loop-first : goal.invariant-loop-first
invariant-loop-first l = record {
  below : l.first < l.heap.geometry.n;
  back : l.first ≤ l.region;
  low : (f : ℕ) → GoesOn l.heap f l.region → f ≤ l.first;
}

abbrev pub decreases-loop-first : goal.decreases-loop-first
decreases-loop-first l = l.first
