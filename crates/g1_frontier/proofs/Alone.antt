-- What one worker kept alone is what won.
use Rattle.std.proofs.Common.{◌≡◌, ℕ, ◌<◌, Bool, true, false, cond, min, eqb, eq-eqb, List, [], ◌∷◌, ◌++◌, map, filter, sym, refl, ap, ◌∙◌, subst, arith, append_assoc, append-nil, Contains, zero, suc}
use Rattle.std.proofs.Common.{IsPermutation}
use Rattle.std.proofs.lemmas.List.Elements.{All-cons, All-nil}
use Rattle.std.proofs.lemmas.List.Sorted.{IsPermutation-refl}
use Rattle.g1_claim.specs.declared.rule.Offer.{Offer}
use Rattle.g1_claim.specs.Claims.{TableView, IsSeatOf, IsSettled, empty, least_rank}
use Rattle.g1_claim.proofs.Totals.{least_rank_top, least_rank-append}
use Rattle.g1_words.proofs.Ordered.{Ordered, Ordered-from_pairs, pairs_from_ordered}
use Rattle.g1_frontier.specs.declared.offering.Holder.{Holder}
use Rattle.g1_frontier.specs.Offering.{Try, pair_of, answered_true, offer_of, Lowers, HasTried}
use Rattle.g1_frontier.specs.Round.{Rises, AreAbove, winners, is_least, HasOffered, IsByRank}
use Rattle.g1_frontier.proofs.Assembly.{RankLess, kept_ordered}
use Rattle.g1_frontier.proofs.Claimed.{round_won}

module _ (place : ℕ → ℕ) where
  -- ranks above one are no lower at any place
  none_lower : (p r : ℕ) (ms : List Try) → r < empty → ((q : ℕ × ℕ) → Contains (map pair_of ms) q → r < q.0) → r < least_rank p (map (offer_of place) ms)
  none_lower p r [] top above = top
  none_lower p r (m ∷ ms) top above =
      let rest = none_lower p r ms top (λ q i. above q (suc i.0, omega (arith, i.1), i.2)) in
      let one = above m.0 (zero, omega arith, refl) in
      elim (eqb (place m.0.1) p) as (λ (b : Bool). r < min (cond b m.0.0 empty) (least_rank p (map (offer_of place) ms))) [ true ↦ omega (arith, rest, one) | false ↦ omega (arith, rest, top) ]

  -- an offer below those before it at its place, and below the ranks after it, has the least rank there
  stays_least : (os : List Offer) (m : Try) (ms : List Try) → m.0.0 < least_rank (place m.0.1) os → ((q : ℕ × ℕ) → Contains (map pair_of ms) q → m.0.0 < q.0)
      → is_least place (os ++ offer_of place m ∷ map (offer_of place) ms) m.0 ≡ true
  stays_least os m ms low above =
      let p : ℕ = place m.0.1 in
      let top = least_rank_top p os in
      let rest = none_lower p m.0.0 ms (omega (arith, low, top)) above in
      let parts = least_rank-append p os (offer_of place m ∷ map (offer_of place) ms) in
      let one : least_rank p (offer_of place m ∷ map (offer_of place) ms) ≡ min m.0.0 (least_rank p (map (offer_of place) ms)) =
      ap (λ b. min (cond b m.0.0 empty) (least_rank p (map (offer_of place) ms))) (eq-eqb p p refl) in
      eq-eqb (least_rank p (os ++ offer_of place m ∷ map (offer_of place) ms)) m.0.0 (omega (arith, parts, one, rest, low))

  -- what lowered its word stays the least, where the ranks rise
  kept_least : (os : List Offer) (ms : List Try) → Lowers place os ms → Ordered RankLess (map pair_of ms) → (q : ℕ × ℕ) →
      Contains (map pair_of (filter answered_true ms)) q → is_least place (os ++ map (offer_of place) ms) q ≡ true
  kept_least os [] l o q i = absurd (omega (arith, i.1))
  kept_least os (m ∷ ms) l o q i =
      at m.1 refl i (λ k. subst (λ as_one. is_least place as_one q ≡ true) (append_assoc os (offer_of place m ∷ []) (map (offer_of place) ms))
      (kept_least (os ++ offer_of place m ∷ []) ms l.1 o.1 q k))
    where
      at : (b : Bool) → m.1 ≡ b → Contains (map pair_of (cond b (m ∷ filter answered_true ms) (filter answered_true ms))) q
          → (Contains (map pair_of (filter answered_true ms)) q → is_least place (os ++ offer_of place m ∷ map (offer_of place) ms) q ≡ true) →
          is_least place (os ++ offer_of place m ∷ map (offer_of place) ms) q ≡ true
      at true t (zero, b, e) later = subst (λ r. is_least place (os ++ offer_of place m ∷ map (offer_of place) ms) r ≡ true) e (stays_least os m ms (l.0 t) o.0)
      at true t (suc j, b, e) later = later (j, omega (arith, b), e)
      at false t k later = later k

all_pass : {A : Type 0} (f : A → Bool) (xs : List A) → ((x : A) → Contains xs x → f x ≡ true) → filter f xs ≡ xs
all_pass f [] h = refl
all_pass f (x ∷ xs) h = ap (λ b. cond b (x ∷ filter f xs) (filter f xs)) (h x (zero, omega arith, refl)) ∙ ap (λ l. x ∷ l) (all_pass f xs (λ y i. h y (suc i.0, omega (arith, i.1), i.2)))

module _ (t : TableView) (place : ℕ → ℕ) (ps : List (ℕ × ℕ)) (before after : Holder) (o : HasTried place ps before after)
    (none : before.kept.items ≡ []) (whole : before.seat.hand.shares ≡ 64) (rise : Rises ps) where
  kept_is : after.kept.items ≡ map pair_of (filter answered_true o.made)
  kept_is = o.kept ∙ ap (λ l. l ++ map pair_of (filter answered_true o.made)) none

  made_rise : Ordered RankLess (map pair_of o.made)
  made_rise = subst (Ordered RankLess) (sym o.each) (Ordered-from_pairs RankLess ps rise)

  kept_rise : Rises after.kept.items
  kept_rise = pairs_from_ordered RankLess after.kept.items (subst (Ordered RankLess) (sym kept_is) (kept_ordered o.made made_rise))

  pub alone_offered : IsSeatOf t after.seat → IsSettled after.seat.hand.offers → HasOffered t place ps before.seat after.seat (after.kept.items ∷ [])
  alone_offered seat settled = record {
    made = o.made;
    each = subst (IsPermutation (map pair_of o.made)) o.each (IsPermutation-refl (map pair_of o.made));
    offers = o.offers;
    kept = append-nil after.kept.items ∙ kept_is;
    rise = All-cons Rises after.kept.items [] kept_rise (All-nil Rises);
    seat = seat;
    whole = o.shares ∙ whole;
    settled = settled;
  }

  all_least : winners place after.seat.hand.offers after.kept.items ≡ after.kept.items
  all_least =
      all_pass (is_least place after.seat.hand.offers) after.kept.items
      (λ q i. subst (λ os. is_least place os q ≡ true) (sym o.offers) (kept_least place before.seat.hand.offers o.made (o.lowers whole) made_rise q (subst (λ k. Contains k q) kept_is i)))

  pub alone_won : IsSeatOf t after.seat → IsSettled after.seat.hand.offers → AreAbove before.seat.hand.offers ps → after.kept.items ≡ winners place after.seat.hand.offers ps
  alone_won seat settled above =
      let l : List (ℕ × ℕ) = after.kept.items in
      let in_order : IsByRank l = λ i j d lt len. let k = kept_rise i j d lt len in omega (arith, k) in
      sym all_least ∙ round_won t place ps before.seat after.seat (l ∷ []) (alone_offered seat settled) l
      (subst (λ k. IsPermutation k l) (sym (append-nil l)) (IsPermutation-refl l)) rise above in_order
