use Rattle.std.proofs.Common.{◌≡◌, ◌+◌, ◌++◌, map, flat_map, sum_by}
use Rattle.g1_claim.specs.Claims.{IsSeatOf}
use Rattle.g1_frontier.specs.declared.offering.Holder.{Holder}
use Rattle.g1_frontier.proofs.round.join_all.Given as goal

abbrev pub invariant-loop-holder : goal.invariant-loop-holder
invariant-loop-holder l = record {
  more : (goal.iterator-loop-holder).can_next l.holder-iterator;
  ends : (goal.iterator-loop-holder).is_finite l.holder-iterator;
  seat : IsSeatOf l.claims l.seat;
  shares : l.seat.hand.shares ≡ l.initial.seat.hand.shares + sum_by (λ (h : Holder). h.seat.hand.shares) l.yielded;
  offers : l.seat.hand.offers ≡ l.initial.seat.hand.offers ++ flat_map (λ (h : Holder). h.seat.hand.offers) l.yielded;
  sights : l.seat.hand.sights ≡ l.initial.seat.hand.sights ++ flat_map (λ (h : Holder). h.seat.hand.sights) l.yielded;
  kept : map (λ v. v.items) l.lists.items ≡ map (λ v. v.items) l.initial.lists.items ++ map (λ (h : Holder). h.kept.items) l.yielded;
}
