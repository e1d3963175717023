use Rattle.std.proofs.Common.{◌≡◌, ◌+◌, length, map, vec_len}
use Rattle.std.specs.List.{All, range_with_len}
use Rattle.g1_claim.specs.Claims.{IsSeatOf}
use Rattle.g1_frontier.specs.declared.offering.Holder.{Holder}
use Rattle.g1_frontier.specs.Round.{IsFreshHolder}
use Rattle.g1_frontier.proofs.round.give_out.Given as goal

abbrev pub invariant-loop-number : goal.invariant-loop-number
invariant-loop-number l = record {
  seat : IsSeatOf l.claims l.seat;
  shares : l.seat.hand.shares + l.number ≡ 65;
  offers : l.seat.hand.offers ≡ l.initial.seat.hand.offers;
  len : vec_len l.holders + 1 ≡ l.number;
  numbers : map (λ (h : Holder). h.number) l.holders.items ≡ range_with_len 1 (length l.holders.items);
  fresh : All (IsFreshHolder l.claims) l.holders.items;
  seen : l.seat.seen ≡ l.initial.seat.seen;
  same : All (λ (h : Holder). h.seat.seen ≡ l.initial.seat.seen) l.holders.items;
}
