-- The cards of a search of one region.
use Rattle.std.proofs.Common.{◌≡◌, ◌≢◌, ◌<◌, ℕ, ◌*◌, ◌/◌, List, [], ◌∷◌, Contains, sym, ap, subst, ◌∙◌, arith, refl}
use Rattle.std.specs.List.{range_with_len}
use Rattle.std.proofs.lemmas.Bool.{false≢true, false_from_ne_true}
use Rattle.g1_words.specs.Heap.{Heap, region_of, card_of}
use Rattle.g1_words.specs.Lists.{has}
use Rattle.g1_words.specs.Valid.{IsValid}
use Rattle.g1_words.proofs.Computed.{range_below}
use Rattle.g1_words.proofs.Members.{filter_member}
use Rattle.g1_words.proofs.Lists.{all_from_in}
use Rattle.g1_image.specs.Image.{region_of_card}
use Rattle.g1_image.specs.Cards.{is_exact, exact}
use Rattle.g1_image.proofs.Covers.{card_region, exact_tells}
use Rattle.g1_rem.specs.Starts.{card_count}
use Rattle.g1_rem.proofs.Rising.{Rises-filter, Rises-range, Rises-increasing}
use Rattle.g1_frontier.specs.Window.{AreCards, AreOutside, LeadIn}
use Rattle.g1_frontier.proofs.Marks.{has_one, only_one}

module _ (h : Heap) (valid : IsValid h) (r : ℕ) where
  -- no card of the exact set lies in the region
  elsewhere : (c : ℕ) → Contains (exact h r) c → region_of_card h c ≢ r
  elsewhere c k z = let e = (exact_tells h valid r c).0 k in e.3 (sym (card_region h valid e.0.slot) ∙ ap (region_of_card h) e.4 ∙ z)

  exact_below : (c : ℕ) → Contains (exact h r) c → c < card_count h
  exact_below c k =
      let b = range_below 0 (card_count h) c (filter_member (is_exact h r) (range_with_len 0 (card_count h)) c k).0 in
      omega (arith, b)

  pub exact_leads_in : AreCards h (exact h r) × AreOutside h (r ∷ []) (exact h r) × LeadIn h (r ∷ []) (exact h r)
  exact_leads_in = (
    record {
      rise = Rises-increasing 0 (exact h r) (Rises-filter (is_exact h r) 0 (range_with_len 0 (card_count h)) (Rises-range 0 (card_count h)));
      below = all_from_in (λ c. c < card_count h) (exact h r) exact_below;
    },
    (λ c k. false_from_ne_true (has (r ∷ []) (c * h.geometry.k / h.geometry.w))
        (λ t. elsewhere c k (only_one r (c * h.geometry.k / h.geometry.w) t))),
    (λ e c t f.
        let into : region_of h e.target ≡ r = only_one r (region_of h e.target) t in
        let out : region_of h e.slot ≢ r = λ z. false≢true (sym f ∙ has_one r (region_of h e.slot) z) in
        (exact_tells h valid r (card_of h e.slot)).1 (e, c, into, out, refl)),
  )

-- the cards of the exact set of a region lead into it
pub region_cards : (i h : Heap) → h ≡ i → IsValid i → (r : ℕ) (found cards : List ℕ) → cards ≡ found → found ≡ exact i r
    → AreCards h cards × AreOutside h (r ∷ []) cards × LeadIn h (r ∷ []) cards
region_cards i h same valid r found cards e entries =
    subst (λ g. AreCards g cards × AreOutside g (r ∷ []) cards × LeadIn g (r ∷ []) cards) (sym same)
    (subst (λ cs. AreCards i cs × AreOutside i (r ∷ []) cs × LeadIn i (r ∷ []) cs) (sym (e ∙ entries)) (exact_leads_in i valid r))
