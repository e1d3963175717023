use Rattle.std.proofs.Common.{◌≡◌, map}
use Rattle.std.specs.List.{range_with_len}
use Rattle.g1_layout.specs.Plan.{laid_before, run_at}
use Rattle.g1_layout.proofs.placing.runs.Given as goal

abbrev pub invariant-loop-region : goal.invariant-loop-region
invariant-loop-region l = record {
  reached : l.from ≡ laid_before l.batch.heap.now l.batch.survivors.now l.region-index;
  listed : l.runs.items ≡ map (run_at l.batch.heap.now l.batch.survivors.now) (range_with_len 0 l.region-index);
}
