use Rattle.std.proofs.Common.{◌-◌, ◌≡◌}
use Rattle.g1_deal.specs.Dealer.{IsSeatOf}
use Rattle.g1_tests.proofs.deal.draw_all.Given as goal

abbrev pub invariant-loop-number : goal.invariant-loop-number
invariant-loop-number l = IsSeatOf l.dealer l.seat × (l.seat.shares ≡ l.fn.seat.shares)

abbrev pub decreases-loop-number : goal.decreases-loop-number
decreases-loop-number l = l.dealer.chunks - l.seat.floor
