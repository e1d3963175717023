use Rattle.std.proofs.Common.{◌≡◌, ℕ, min, rules, arith, ap, subst, ◌∙◌}
use Rattle.g1_deal.specs.Dealer.{SeatView, DealerView}
use Rattle.g1_deal.specs.Rule.{DrawnBy, hand_of}
use Rattle.g1_deal.proofs.Moves.{takes}
use Rattle.g1_deal.proofs.dealer.Dealer.take.Goals as goal

pub fetch_add-found-requires : goal.fetch_add-found-requires
fetch_add-found-requires c = (search rules, search rules, takes _ _ _ _ (omega arith) (search rules))

pub returns-then-found-self-clause-next : goal.returns-then-found-self-clause-next
returns-then-found-self-clause-next c =
    let chunks = ap (λ (d : DealerView). d.chunks) c.self.view_is in
    let same : c.seat.inside.seat.me.0.chunks ≡ c.args.self.now.chunks = ap (λ (s : SeatView). s.chunks) c.seat.view_is ∙ c.requires.1 in
    let n : min c.fetch_add-found.result c.seat.inside.seat.me.0.chunks ≡ c.fetch_add-found.result = omega arith in
    subst (λ (z : SeatView × ℕ). DrawnBy (hand_of z.0) z.1) (λ i. (c.seat.view_is i, n i)) c.fetch_add-found.ensures.2.4

pub returns-else-found-self-clause-end : goal.returns-else-found-self-clause-end
returns-else-found-self-clause-end c fresh =
    let chunks = ap (λ (d : DealerView). d.chunks) c.self.view_is in
    let same : c.seat.inside.seat.me.0.chunks ≡ c.args.self.now.chunks = ap (λ (s : SeatView). s.chunks) c.seat.view_is ∙ c.requires.1 in
    let n : min c.fetch_add-found.result c.seat.inside.seat.me.0.chunks ≡ c.args.self.now.chunks = omega arith in
    subst (λ (z : SeatView × ℕ). DrawnBy (hand_of z.0) z.1) (λ i. (c.seat.view_is i, n i)) c.fetch_add-found.ensures.2.4
