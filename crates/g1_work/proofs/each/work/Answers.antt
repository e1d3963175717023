use Rattle.std.proofs.Common.{arith, refl, ap}
use Rattle.g1_deal.specs.Dealer.{SeatView}
use Rattle.g1_work.proofs.Running.{starts, goes_on, ends}
use Rattle.g1_work.proofs.each.work.Goals as goal

pub loop-chunk-init : goal.loop-chunk-init
loop-chunk-init g c = starts _ _ _ _ _ c.new-outs.ensures.items c.requires

pub take-requires : goal.take-requires
take-requires g c = c.loop-chunk.invariant.seat_of

pub run-requires : goal.run-requires
run-requires g c = c.loop-chunk.invariant.may_run _ c.in-Some.ensures.not_known c.in-Some.ensures.below

pub loop-chunk-smaller : goal.loop-chunk-smaller
loop-chunk-smaller g c = let floor = ap (λ (s : SeatView). s.floor) c.in-Some.ensures.drawn in omega (arith, c.in-Some.ensures.below, c.in-Some.ensures.not_known, floor)

pub loop-chunk-preserved : goal.loop-chunk-preserved
loop-chunk-preserved g c = let d = c.in-Some.ensures in
    goes_on _ _ _ _ _ _ _ _ _ _ _ _ c.loop-chunk.invariant d.below d.not_known d.drawn c.in_ok-out.ensures.ok c.in_ok-out.ensures.keeps c.in_ok-push_back.ensures.items

pub returns-clause-ok : goal.returns-clause-ok
returns-clause-ok g c = ends _ _ _ _ _ _ _ _ c.loop-chunk.invariant c.in_default.ensures.none refl refl
