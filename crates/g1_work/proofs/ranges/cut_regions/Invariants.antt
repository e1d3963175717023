use Rattle.std.proofs.Common.{◌≤◌, length}
use Rattle.g1_work.proofs.Cutting.{IsCutTo}
use Rattle.g1_work.proofs.ranges.cut_regions.Given as goal

abbrev pub invariant-loop-range : goal.invariant-loop-range
invariant-loop-range l = IsCutTo (length l.regions) l._range l.begins.items l.begin × (l._range ≤ l.ranges)
