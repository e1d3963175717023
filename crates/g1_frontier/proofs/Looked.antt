-- A round of looks, whichever worker made them.
use Rattle.std.proofs.Common.{◌≡◌, ℕ, ◌*◌, ◌≤◌, inl, inr, List, [], ◌∷◌, ◌++◌, map, length, sym, refl, ap, ◌∙◌, subst, Contains, zero, arith}
use Rattle.std.proofs.Common.{append-nil, IsPermutation}
use Rattle.std.specs.List.{flat_map, enumerate_from}
use Rattle.std.proofs.lemmas.List.Sorted.{IsPermutation-sym, Contains-permutation}
use Rattle.std.proofs.lemmas.List.Elements.{Contains-append_left, Contains-append_right, Contains-push_cases}
use Rattle.g1_claim.specs.declared.rule.Offer.{Offer}
use Rattle.g1_claim.specs.declared.rule.Sight.{Sight}
use Rattle.g1_claim.specs.Claims.{TableView, SeatView, AreWon}
use Rattle.g1_claim.specs.History.{Begins, AreSeen}
use Rattle.g1_claim.proofs.History.{begins_all}
use Rattle.g1_work.specs.Each.{IsEachRun, joined}
use Rattle.g1_work.specs.Regions.{slice_of}
use Rattle.g1_words.proofs.Members.{Contains-flat_map, none_contains}
use Rattle.g1_words.proofs.Ordered.{Ordered}
use Rattle.g1_words.proofs.Lists.{all_in}
use Rattle.g1_frontier.specs.declared.offering.Holder.{Holder}
use Rattle.g1_frontier.specs.Offering.{Try, pair_of, offer_of, HasTried}
use Rattle.g1_frontier.specs.Looking.{HasLooked}
use Rattle.g1_frontier.specs.Round.{IsGivenOut, HasTaken, is_least, winners}
use Rattle.g1_frontier.proofs.Assembly.{RankLess, whole_round}
use Rattle.g1_frontier.proofs.Looks.{IsWon, won_in, each_won, chunks_pass}

-- a look offers nothing
pub none : ℕ × ℕ → List (ℕ × ℕ)
none q = []

flat_none : (ps : List (ℕ × ℕ)) → flat_map none ps ≡ []
unfolding none
flat_none [] = refl
flat_none (q ∷ ps) = flat_none ps

no_member : (ms : List Try) → IsPermutation (map pair_of ms) [] → ms ≡ []
no_member [] p = refl
no_member (m ∷ ms) p = absurd (none_contains (pair_of m) (Contains-permutation (map pair_of (m ∷ ms)) [] (pair_of m) p (zero, omega arith, refl)))

module _ (t : TableView) (place : ℕ → ℕ) (size : ℕ) (pairs : List (ℕ × ℕ)) {O : Type 0} (list_of : O → List (ℕ × ℕ)) (runs : Holder → ℕ → Holder → O → Type 0)
    (says : (s : Holder) (k : ℕ) (u : Holder) (o : O) → runs s k u o → (u.kept.items ≡ s.kept.items) × (u.number ≡ s.number) × HasLooked place (slice_of size k pairs) s.seat u.seat (list_of o)) where
  pub tried : (s : Holder) (k : ℕ) (u : Holder) (o : O) → runs s k u o → HasTried place (flat_map none (slice_of size k pairs)) s u
  tried s k u o r =
      let h = (says s k u o r).2 in record {
        made = [];
        each = sym (flat_none (slice_of size k pairs));
        offers = h.offers ∙ sym (append-nil s.seat.hand.offers);
        kept = (says s k u o r).0 ∙ sym (append-nil s.kept.items);
        number = (says s k u o r).1;
        table = h.table;
        shares = h.shares;
        lowers = λ all. tt;
      }

  -- the whole seat has offered nothing more, and what the chunks list is what won
  pub record IsLookedOver (seat after : SeatView) (outs : List O) : Type 0 where
    pub whole : after.hand.shares ≡ 64
    pub offers : after.hand.offers ≡ seat.hand.offers
    pub won : flat_map list_of outs ≡ winners place seat.hand.offers pairs

  pub looked_over : (n : ℕ) (seat after_seat : SeatView) (count : ℕ) (before after : List Holder) (outs : List O) (lists : List (List (ℕ × ℕ))) →
      IsGivenOut t seat count before → IsEachRun runs n before after outs → HasTaken t after after_seat lists
      → length pairs ≤ n * size → AreSeen seat.hand.offers seat.seen → IsLookedOver seat after_seat outs
  looked_over n seat after_seat count before after outs lists g r k le are =
      let os : List Offer = seat.hand.offers in
      let o = whole_round t place none size pairs runs tried n seat after_seat count before after outs lists g r k le (subst (Ordered RankLess) (sym (flat_none pairs)) tt) in
      let nothing : o.made ≡ [] = no_member o.made (subst (IsPermutation (map pair_of o.made)) (flat_none pairs) o.each) in
      let same : after_seat.hand.offers ≡ os = o.offers ∙ ap (λ ms. os ++ map (offer_of place) ms) nothing ∙ append-nil os in
      let won : AreWon after_seat.hand.sights os = subst (AreWon after_seat.hand.sights) same (k.won o.whole) in
      let there : (u : Holder) → Contains after u → (y : Sight) → Contains u.seat.hand.sights y → IsWon os y = λ u i y j.
      won_in after_seat.hand.sights os won y (subst (λ ss. Contains ss y) (sym k.sights) (elim (Contains-push_cases k.others k.last u (subst (λ l. Contains l u) k.are i)) [
        | inl a ↦ Contains-append_right k.last.seat.hand.sights (flat_map (λ h. h.seat.hand.sights) k.others) y (Contains-flat_map (λ h. h.seat.hand.sights) k.others u y a j)
        | inr e ↦ Contains-append_left k.last.seat.hand.sights (flat_map (λ h. h.seat.hand.sights) k.others) y (subst (λ (h : Holder). Contains h.seat.hand.sights y) (sym e) j)
      ])) in
      let begun : (s : Holder) → Contains before s → Begins s.seat.seen seat.seen = λ s i.
      subst (λ l. Begins l seat.seen) (sym (all_in (λ h. h.seat.seen ≡ seat.seen) before s g.seen i)) (begins_all seat.seen) in
      let each = each_won place os seat.seen are (λ j. slice_of size j pairs) list_of runs (λ s j u x z. (says s j u x z).2) n before r.parts after r.workers begun there in record {
        whole = o.whole;
        offers = same;
        won = chunks_pass (is_least place os) list_of size pairs outs (subst (λ m. length pairs ≤ m * size) (sym r.count) le)
            (λ x i. each x (Contains-permutation (enumerate_from 0 outs) (joined r.parts) x (IsPermutation-sym (joined r.parts) (enumerate_from 0 outs) r.once) i));
      }
