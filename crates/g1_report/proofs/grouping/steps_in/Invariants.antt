use Rattle.std.proofs.Common.{◌≡◌, ◌-◌, ◌^◌, min, map, take}
use Rattle.g1_report.specs.Runs.{steps_in}
use Rattle.g1_report.specs.Gathered.{run_of}
use Rattle.g1_report.proofs.grouping.steps_in.Given as goal

abbrev pub invariant-loop-run : goal.invariant-loop-run
invariant-loop-run l = l.steps ≡ min (steps_in (map run_of (take l.run-index l.runs))) (2 ^ 64 - 1)
