use Rattle.std.proofs.Common.{ap, subst, ◌∙◌}
use Rattle.g1_deal.specs.Dealer.{SeatView}
use Rattle.g1_deal.proofs.Moves.{closes}
use Rattle.g1_deal.proofs.Known.{IsKnownSeat, closed}
use Rattle.g1_deal.proofs.dealer.Dealer.close.Goals as goal

pub returns-clause-steps : goal.returns-clause-steps
returns-clause-steps c = let all = ap (λ (s : SeatView). s.shares) c.seat.view_is ∙ c.requires.whole in
    closes _ _ _ _ _ _ c.close_with-closed.ensures.values.2 c.word-cursor.ensures all ∙ ap (λ (s : SeatView). s.steps) c.seat.view_is

pub returns-clause-cursor : goal.returns-clause-cursor
returns-clause-cursor c = (closed c.args.seat _ _ (subst (λ (s : SeatView). IsKnownSeat s) c.seat.view_is c.seat.invariant.7) c.requires.whole c.requires.dealer.1 (returns-clause-steps c)).0

pub returns-clause-draws : goal.returns-clause-draws
returns-clause-draws c = (closed c.args.seat _ _ (subst (λ (s : SeatView). IsKnownSeat s) c.seat.view_is c.seat.invariant.7) c.requires.whole c.requires.dealer.1 (returns-clause-steps c)).1

pub returns-clause-count : goal.returns-clause-count
returns-clause-count c = (closed c.args.seat _ _ (subst (λ (s : SeatView). IsKnownSeat s) c.seat.view_is c.seat.invariant.7) c.requires.whole c.requires.dealer.1 (returns-clause-steps c)).2

pub returns-clause-known : goal.returns-clause-known
returns-clause-known c = (closed c.args.seat _ _ (subst (λ (s : SeatView). IsKnownSeat s) c.seat.view_is c.seat.invariant.7) c.requires.whole c.requires.dealer.1 (returns-clause-steps c)).3
