use Rattle.std.proofs.Common.{slice_index}
use Rattle.g1_image.specs.Draft.{ShapedBelow}
use Rattle.g1_image.specs.Marks.{StartsOf}
use Rattle.g1_image.proofs.starts.Shaping.join.Given as goal

abbrev pub invariant-loop-part : goal.invariant-loop-part
invariant-loop-part l = record {
  starts : StartsOf l.self.draft.now 0 (slice_index l.self.begins.now l.part-index) l.marks;
  shaped : ShapedBelow l.self.draft.now (slice_index l.self.begins.now l.part-index);
}
