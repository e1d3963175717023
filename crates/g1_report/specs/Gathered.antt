-- The runs of a path as the functions inside have them.
use Rattle.std.specs.Prelude.{string_bytes}
use Rattle.g1_report.specs.declared.grouping.Group.{Group}
use Rattle.g1_report.specs.declared.grouping.Run.{Run}
use Rattle.g1_report.specs.Runs.{Repeated}

abbrev pub group_of : Group → Repeated
group_of g = (string_bytes g.step, g.count)

abbrev pub run_of : Run → Repeated
run_of r = (r.step.now, r.count)
