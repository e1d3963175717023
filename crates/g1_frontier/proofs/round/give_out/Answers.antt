use Rattle.std.proofs.Common.{arith, refl, ap, sym, subst, suc, ◌≡◌, ◌+◌, ◌-◌, ◌++◌, ◌∙◌, [], ◌∷◌, List, All, map, length, length-append}
use Rattle.std.specs.List.{range_with_len}
use Rattle.std.proofs.lemmas.List.{map-append}
use Rattle.std.proofs.lemmas.List.Elements.{All-push}
use Rattle.g1_claim.specs.declared.rule.Hand.{Hand}
use Rattle.g1_frontier.specs.declared.offering.Holder.{Holder}
use Rattle.g1_frontier.specs.Round.{IsFreshHolder}
use Rattle.g1_words.proofs.Lists.{range_push}
use Rattle.g1_frontier.proofs.round.give_out.Goals as goal

pub returns : goal.returns
returns c =
    let i = c.loop-number.invariant in
    let end : c.loop-number.number ≡ c.args.team.workers = let e = c.loop-number.auto.number-end (omega (arith, c.workers-count.ensures.range.0)) in
    omega (arith, e, c.loop-number-test.false, c.workers-count.ensures.value) in
    let are : c.push-2.new.self.items ≡ c.loop-number.holders.items ++ record { number = 0; seat = c.loop-number.seat; kept = c.empty_room-2.result } ∷ [] = c.in_ok-push-2.ensures.items in record {
      others = c.loop-number.holders.items;
      last = record { number = 0; seat = c.loop-number.seat; kept = c.empty_room-2.result };
      are = are;
      count_is = let len = length-append c.loop-number.holders.items (record { number = 0; seat = c.loop-number.seat; kept = c.empty_room-2.result } ∷ []) in omega (arith, ap length are, len, i.len, end, c.loop-number.holders.ok);
      numbers = i.numbers;
      first = refl;
      fresh = i.fresh;
      seat = i.seat;
      shares = omega (arith, i.shares, i.len, c.loop-number.holders.ok);
      offers = i.offers;
      none_kept = c.empty_room-2.ensures;
      seen = subst (All (λ (h : Holder). h.seat.seen ≡ c.args.seat.seen)) (sym are) (All-push (λ (h : Holder). h.seat.seen ≡ c.args.seat.seen) c.loop-number.holders.items (record { number = 0; seat = c.loop-number.seat; kept = c.empty_room-2.result }) i.same i.seen);
    }

pub loop-number-smaller : goal.loop-number-smaller
loop-number-smaller c = omega (arith, c.loop-number-test.true)

pub loop-number-init : goal.loop-number-init
loop-number-init c =
    let none = c.in_ok-holders.ensures in record {
      seat = c.requires.seat.0;
      shares = omega (arith, c.requires.seat.1);
      offers = refl;
      len = omega (arith, none.len);
      numbers = ap (λ (l : List Holder). map (λ (h : Holder). h.number) l) none.items ∙ sym (ap (λ (l : List Holder). range_with_len 1 (length l)) none.items);
      fresh = λ k d lt. absurd (omega (arith, lt, ap length none.items));
      seen = refl;
      same = λ k d lt. absurd (omega (arith, lt, ap length none.items));
    }

pub loop-number-preserved : goal.loop-number-preserved
loop-number-preserved c =
    let i = c.loop-number.invariant in
    let t = c.args.claims.now in
    let shares : c.split-theirs.new.seat.hand.shares ≡ c.loop-number.seat.hand.shares - 1 = ap (λ (h : Hand). h.shares) c.split-theirs.ensures.left in record {
      seat = c.split-theirs.ensures.table;
      shares = omega (arith, shares, i.shares);
      offers = ap (λ (h : Hand). h.offers) c.split-theirs.ensures.left ∙ i.offers;
      len = omega (arith, c.in_ok-push.ensures.len, i.len);
      numbers =
          let one : Holder = record { number = c.loop-number.number; seat = c.split-theirs.result; kept = c.empty_room.result } in
          let n : c.loop-number.number ≡ 1 + length c.loop-number.holders.items = omega (arith, i.len, c.loop-number.holders.ok) in
          let long : suc (length c.loop-number.holders.items) ≡ length (c.loop-number.holders.items ++ one ∷ []) = let l = length-append c.loop-number.holders.items (one ∷ []) in omega (arith, l) in
          ap (map (λ (h : Holder). h.number)) c.in_ok-push.ensures.items
          ∙ map-append (λ (h : Holder). h.number) c.loop-number.holders.items (one ∷ [])
          ∙ (λ k. i.numbers k ++ n k ∷ [])
          ∙ range_push 1 (length c.loop-number.holders.items)
          ∙ ap (range_with_len 1) (long ∙ sym (ap length c.in_ok-push.ensures.items));
      fresh = subst (All (IsFreshHolder t)) (sym c.in_ok-push.ensures.items) (All-push (IsFreshHolder t) c.loop-number.holders.items (record { number = c.loop-number.number; seat = c.split-theirs.result; kept = c.empty_room.result }) i.fresh
          (record {
            seat = c.split-theirs.ensures.other;
            share = ap (λ (h : Hand). h.shares) c.split-theirs.ensures.right;
            no_offers = ap (λ (h : Hand). h.offers) c.split-theirs.ensures.right;
            none_kept = c.empty_room.ensures;
          }));
      seen = c.split-theirs.ensures.same ∙ i.seen;
      same = subst (All (λ (h : Holder). h.seat.seen ≡ c.args.seat.seen)) (sym c.in_ok-push.ensures.items) (All-push (λ (h : Holder). h.seat.seen ≡ c.args.seat.seen) c.loop-number.holders.items
          (record { number = c.loop-number.number; seat = c.split-theirs.result; kept = c.empty_room.result }) i.same (c.split-theirs.ensures.seen ∙ i.seen));
    }
