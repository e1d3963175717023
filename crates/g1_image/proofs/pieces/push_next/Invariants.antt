use Rattle.g1_image.specs.Ahead.{to_take, KnowsEnd}
use Rattle.g1_image.proofs.Laid.{Pushed}
use Rattle.g1_image.proofs.pieces.push_next.Given as goal

abbrev pub invariant-loop-left : goal.invariant-loop-left
invariant-loop-left g l = record {
  known : KnowsEnd l.ahead (g.S.Source.left l.source);
  part : Pushed (g.S.Source.failed l.fn.source) (g.S.Source.failed l.source) (to_take l.fn.ahead (g.S.Source.left l.fn.source))
      (to_take l.ahead (g.S.Source.left l.source)) l.count l.left l.fn.out.items l.out.items;
}

abbrev pub decreases-loop-left : goal.decreases-loop-left
decreases-loop-left g l = l.left
