use Rattle.std.proofs.Common.{◌≡◌, map, take, flat_map}
use Rattle.g1_report.specs.Runs.{runs_in}
use Rattle.g1_report.specs.Gathered.{run_of, group_of}
use Rattle.g1_report.proofs.grouping.runs_of.Given as goal

abbrev pub invariant-loop-group : goal.invariant-loop-group
invariant-loop-group l = map run_of l.runs.items ≡ flat_map runs_in (map group_of (take l.group-index l.groups))
