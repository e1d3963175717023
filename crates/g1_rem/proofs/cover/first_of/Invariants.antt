use Rattle.std.proofs.Common.{◌≡◌}
use Rattle.g1_rem.specs.Marks.{objects_from}
use Rattle.g1_rem.specs.Cover.{bare_between}
use Rattle.g1_rem.specs.Places.{AreReadyFor}
use Rattle.g1_rem.proofs.cover.first_of.Given as goal

abbrev pub invariant-loop-region : goal.invariant-loop-region
invariant-loop-region l = record {
  same : bare_between l.fn.image l.from l.to ≡ bare_between l.fn.image l.region l.to;
  ready : AreReadyFor l.fn.image l.places (objects_from l.fn.image.heap l.region);
}
