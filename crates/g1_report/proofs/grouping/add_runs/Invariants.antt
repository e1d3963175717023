use Rattle.std.proofs.Common.{◌≡◌, ◌++◌, map}
use Rattle.std.specs.Prelude.{replicate}
use Rattle.g1_report.specs.Gathered.{run_of}
use Rattle.g1_report.proofs.grouping.add_runs.Given as goal

abbrev pub invariant-loop : goal.invariant-loop
invariant-loop l = map run_of l.runs.items ≡ map run_of l.initial.runs.items ++ replicate l.counter (l.step, 1)
