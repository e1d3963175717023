use Rattle.std.proofs.Common.{◌≡◌, ◌<◌, ◌-◌, ◌^◌}
use Rattle.std.specs.Io.KnownBytes.{Keeps}
use Rattle.g1_image.specs.Ahead.{to_take, KnowsEnd}
use Rattle.g1_image.proofs.decoding.take_front.Given as goal

abbrev pub invariant-loop-more : goal.invariant-loop-more
invariant-loop-more g l = record {
  known : KnowsEnd l.ahead (g.S.Source.left l.source);
  mark : g.S.Source.failed l.source ≡ g.S.Source.failed l.fn.source;
  kept : Keeps (to_take l.fn.ahead (g.S.Source.left l.fn.source)) (to_take l.ahead (g.S.Source.left l.source));
  some : 0 < l.wanted;
}

abbrev pub decreases-loop-more : goal.decreases-loop-more
decreases-loop-more g l = 2 ^ 64 - l.wanted
