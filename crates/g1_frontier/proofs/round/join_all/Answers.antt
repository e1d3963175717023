use Rattle.std.proofs.Common.{arith, ap, sym, subst, ◌≡◌, ◌+◌, ◌++◌, ◌∷◌, [], ◌∙◌, ℕ, List, Vec, Global, length, map, append_assoc, append-nil}
use Rattle.std.specs.List.{sum_by, flat_map}
use Rattle.std.proofs.lemmas.Iterator.Adapters.{YieldsList-from_vec}
use Rattle.std.proofs.lemmas.Iterator.Consumers.{YieldsList-turn, YieldsList-end}
use Rattle.std.proofs.lemmas.List.{flat_map_more, map-append, map-id}
use Rattle.std.proofs.lemmas.List.Sums.{sum_by-append}
use Rattle.g1_claim.specs.Claims.{IsSeatOf}
use Rattle.g1_claim.specs.declared.rule.Hand.{Hand}
use Rattle.g1_claim.specs.declared.rule.Offer.{Offer}
use Rattle.g1_claim.specs.declared.rule.Sight.{Sight}
use Rattle.g1_frontier.specs.declared.offering.Holder.{Holder}
use Rattle.g1_frontier.proofs.round.join_all.Goals as goal

pub loop-holder-init : goal.loop-holder-init
loop-holder-init c = record {
  more = tt;
  ends = tt;
  seat = c.requires.seat;
  shares = omega arith;
  offers = sym (append-nil c.args.seat.now.hand.offers);
  sights = sym (append-nil c.args.seat.now.hand.sights);
  kept = sym (append-nil (map (λ (v : Vec (ℕ × ℕ) Global). v.items) c.args.lists.now.items));
}

pub join-requires-clause-other : goal.join-requires-clause-other
join-requires-clause-other c =
    let all = c.into_iter-holder-iterator.ensures.into_iter_gives in
    let t = YieldsList-turn (YieldsList-from_vec c.args.others.items all.0 (omega (arith, all.1, c.args.others.ok.0))) c.loop-holder.yielded c.loop-holder.holder-iterator c.loop-holder.yielded_by c.next.result c.next.new.self c.in-Some.holder c.in-Some.is c.next.ensures.steps in
    subst (λ (h : Holder). IsSeatOf c.args.claims.now h.seat) (sym t.1) (c.requires.others (length c.loop-holder.yielded) c.in-Some.holder t.0)

pub loop-holder-preserved : goal.loop-holder-preserved
loop-holder-preserved c =
    let inv = c.loop-holder.invariant in
    let o : Holder = c.in-Some.holder in
    let ys : List Holder = c.loop-holder.yielded in
    let both = c.join.ensures.both in
    let shares : c.join.new.seat.hand.shares ≡ c.loop-holder.seat.hand.shares + o.seat.hand.shares = ap (λ (h : Hand). h.shares) both in
    let offers : List Offer = c.args.seat.now.hand.offers in
    let offers_of : Holder → List Offer = λ h. h.seat.hand.offers in
    let sights : List Sight = c.args.seat.now.hand.sights in
    let sights_of : Holder → List Sight = λ h. h.seat.hand.sights in
    let lists : List (List (ℕ × ℕ)) = map (λ (v : Vec (ℕ × ℕ) Global). v.items) c.args.lists.now.items in
    record {
      more = tt;
      ends = tt;
      seat = c.join.ensures.table;
      shares = omega (arith, shares, inv.shares, sum_by-append (λ (h : Holder). h.seat.hand.shares) ys (o ∷ []));
      offers = ap (λ (h : Hand). h.offers) both ∙ ap (λ (l : List Offer). l ++ o.seat.hand.offers) inv.offers
          ∙ append_assoc offers (flat_map offers_of ys) (offers_of o) ∙ ap (λ (l : List Offer). offers ++ l) (flat_map_more offers_of [] ys o);
      sights = ap (λ (h : Hand). h.sights) both ∙ ap (λ (l : List Sight). l ++ o.seat.hand.sights) inv.sights
          ∙ append_assoc sights (flat_map sights_of ys) (sights_of o) ∙ ap (λ (l : List Sight). sights ++ l) (flat_map_more sights_of [] ys o);
      kept = ap (map (λ (v : Vec (ℕ × ℕ) Global). v.items)) c.in_ok-push.ensures.items
          ∙ map-append (λ (v : Vec (ℕ × ℕ) Global). v.items) c.loop-holder.lists.items (o.kept ∷ []) ∙ ap (λ (l : List (List (ℕ × ℕ))). l ++ o.kept.items ∷ []) inv.kept
          ∙ append_assoc lists (map (λ (h : Holder). h.kept.items) ys) (o.kept.items ∷ [])
          ∙ ap (λ (l : List (List (ℕ × ℕ))). lists ++ l) (sym (map-append (λ (h : Holder). h.kept.items) ys (o ∷ [])));
    }

pub loop-holder-smaller : goal.loop-holder-smaller
loop-holder-smaller c = omega (arith, c.in-Some.ensures.steps.1)

pub returns : goal.returns
returns c =
    let inv = c.loop-holder.invariant in
    let all = c.into_iter-holder-iterator.ensures.into_iter_gives in
    let t = YieldsList-end (YieldsList-from_vec c.args.others.items all.0 (omega (arith, all.1, c.args.others.ok.0))) c.loop-holder.yielded c.loop-holder.holder-iterator c.loop-holder.yielded_by c.next.result c.next.new.self c.in-None.is c.next.ensures.steps in
    let end : c.loop-holder.yielded ≡ c.args.others.items = sym (map-id c.loop-holder.yielded) ∙ t.0 in
    record {
      seat = inv.seat;
      shares = inv.shares ∙ ap (λ (l : List Holder). c.args.seat.now.hand.shares + sum_by (λ (h : Holder). h.seat.hand.shares) l) end;
      offers = inv.offers ∙ ap (λ (l : List Holder). c.args.seat.now.hand.offers ++ flat_map (λ (h : Holder). h.seat.hand.offers) l) end;
      sights = inv.sights ∙ ap (λ (l : List Holder). c.args.seat.now.hand.sights ++ flat_map (λ (h : Holder). h.seat.hand.sights) l) end;
      kept = inv.kept ∙ ap (λ (l : List Holder). map (λ (v : Vec (ℕ × ℕ) Global). v.items) c.args.lists.now.items ++ map (λ (h : Holder). h.kept.items) l) end;
    }
