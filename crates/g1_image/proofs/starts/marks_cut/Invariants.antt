use Rattle.g1_image.specs.Shapes.{IsMarksCut}
use Rattle.g1_image.proofs.starts.marks_cut.Given as goal

abbrev pub invariant-loop-range : goal.invariant-loop-range
invariant-loop-range l = IsMarksCut l.draft l.ranges l.range l.begins.items
