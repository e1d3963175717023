use Rattle.std.proofs.Common.{rules, arith, ◌≡◌, ap}
use Rattle.g1_deal.specs.Rule.{both_hands}
use Rattle.g1_deal.specs.declared.rule.Hand.{Hand}
use Rattle.g1_deal.proofs.Moves.{joins, looks}
use Rattle.g1_deal.proofs.dealer.Dealer.join.Goals as goal

pub join_seat-requires : goal.join_seat-requires
join_seat-requires c = (search rules, search rules, search rules, search rules, joins _ _ _ _ _ (search rules) (search rules))

pub load-requires : goal.load-requires
load-requires c =
    let is : c.join_seat.new.seat.me.0 ≡ both_hands c.seat.inside.seat.me.0 c.other.inside.seat.me.0 = search rules in
    let shares = ap (λ (h : Hand). h.shares) is in (search rules, search rules, looks _ _ _ _ (omega arith))
