use Rattle.std.proofs.Common.{◌≡◌, ℕ, min, rules, arith, ap, subst, sym, ◌∙◌}
use Rattle.g1_deal.specs.Dealer.{SeatView, DealerView}
use Rattle.g1_deal.specs.Rule.{DrawnBy, hand_of}
use Rattle.g1_deal.proofs.Moves.{sees}
use Rattle.g1_deal.proofs.dealer.Dealer.drawn.Goals as goal

pub load-found-requires : goal.load-found-requires
load-found-requires c = (search rules, search rules, sees _ _ _ _ (omega arith))

pub returns-clause-so_far : goal.returns-clause-so_far
returns-clause-so_far c =
    let chunks = ap (λ (d : DealerView). d.chunks) c.self.view_is in
    let same : c.seat.inside.seat.me.0.chunks ≡ c.args.self.now.chunks = ap (λ (s : SeatView). s.chunks) c.seat.view_is ∙ c.requires.1 in
    let n : min c.load-found.result c.seat.inside.seat.me.0.chunks ≡ c.min.result = ap (min c.load-found.result) (same ∙ sym chunks) ∙ sym c.min.ensures in
    subst (λ (z : SeatView × ℕ). DrawnBy (hand_of z.0) z.1) (λ i. (c.seat.view_is i, n i)) c.load-found.ensures.2.5
