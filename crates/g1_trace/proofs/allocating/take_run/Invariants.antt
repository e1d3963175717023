use Rattle.std.proofs.Common.{◌≡◌, length}
use Rattle.g1_trace.specs.Placing.{run_taken}
use Rattle.g1_trace.proofs.allocating.take_run.Given as goal

-- so many regions of the run are taken
abbrev pub invariant-loop-i : goal.invariant-loop-i
invariant-loop-i l = record {
  taken : l.regions.items ≡ run_taken l.geometry.w l.fn.regions.items l.first l.size l.i;
  size : length l.regions.items ≡ length l.fn.regions.items;
}
