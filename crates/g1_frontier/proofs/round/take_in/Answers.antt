use Rattle.std.proofs.Common.{ap, ◌++◌, ◌∙◌, ℕ, List, Vec, Global, Some, [], ◌∷◌, map}
use Rattle.std.proofs.lemmas.List.Elements.{All-pop}
use Rattle.g1_claim.specs.Claims.{IsSeatOf}
use Rattle.g1_frontier.specs.declared.offering.Holder.{Holder}
use Rattle.g1_frontier.proofs.round.take_in.Goals as goal

pub returns : goal.returns
returns c = record {
  others = c.pop.new.self.items;
  last = c.in-Some.last;
  are = c.in-Some.ensures.items;
  seat = c.in_ok-join_all.ensures.seat;
  shares = c.in_ok-join_all.ensures.shares;
  offers = c.in_ok-join_all.ensures.offers;
  kept = c.in_ok-join_all.ensures.kept ∙ ap (λ (l : List (Vec (ℕ × ℕ) Global)). map (λ (v : Vec (ℕ × ℕ) Global). v.items) l
      ++ map (λ h. h.kept.items) c.pop.new.self.items) (c.in_ok-push.ensures.items ∙ ap (λ (l : List (Vec (ℕ × ℕ) Global)). l ++ c.in-Some.last.kept ∷ []) c.new-lists.ensures.items);
  sights = c.in_ok-join_all.ensures.sights;
  settled = c.settled.ensures.whole;
  won = c.settled.ensures.sights;
}

pub join_all-requires-clause-seat : goal.join_all-requires-clause-seat
join_all-requires-clause-seat c =
    (All-pop (λ (h : Holder). IsSeatOf c.args.claims.now h.seat) c.args.holders.items c.pop.new.self.items (Some c.in-Some.last) c.in-Some.ensures.items c.requires.seats).1

pub join_all-requires-clause-others : goal.join_all-requires-clause-others
join_all-requires-clause-others c =
    (All-pop (λ (h : Holder). IsSeatOf c.args.claims.now h.seat) c.args.holders.items c.pop.new.self.items (Some c.in-Some.last) c.in-Some.ensures.items c.requires.seats).0
