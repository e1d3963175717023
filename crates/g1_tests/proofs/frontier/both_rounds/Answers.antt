use Rattle.std.proofs.Common.{ap, sym, subst, ◌≡◌, ◌+◌, ◌*◌, ◌∙◌, ℕ, List, [], ◌∷◌, length, map, All}
use Rattle.g1_claim.specs.declared.rule.Offer.{Offer}
use Rattle.g1_claim.specs.declared.rule.Hand.{Hand}
use Rattle.g1_claim.specs.Claims.{TableView}
use Rattle.g1_frontier.specs.declared.item.Item.{Item}
use Rattle.g1_frontier.specs.Window.{place}
use Rattle.g1_frontier.specs.Items.{IsItem, IsOutside, AreRanks, all_pairs, first_items, object_items}
use Rattle.g1_frontier.specs.Round.{Rises, AreAbove, AddsOffers, winners}
use Rattle.g1_frontier.specs.Search.{IsSearchBy}
use Rattle.g1_frontier.proofs.Searching.{first_are_items, first_rises, first_ranks, rest_are_items, rest_rises, rest_ranks, rest_above}
use Rattle.g1_tests.proofs.Rounds.{first_outside, objects_outside, going_on, is_going_on}
use Rattle.g1_tests.proofs.frontier.both_rounds.Given.{Over}
use Rattle.g1_tests.proofs.frontier.both_rounds.Goals as goal

pub claim_round-requires-clause-items : goal.claim_round-requires-clause-items
claim_round-requires-clause-items g c κs within =
    let h = c.args.heap.now in
    subst (All (IsItem h)) (sym c.in_ok-items.ensures.items) (first_are_items h c.geometry.ensures.valid (1 ∷ []) c.args.cards.now c.requires.region
    c.requires.cards c.requires.outside c.requires.lead_in)

pub claim_round-requires-clause-outside : goal.claim_round-requires-clause-outside
claim_round-requires-clause-outside g c κs within =
    let h = c.args.heap.now in
    subst (All (IsOutside h (1 ∷ []))) (sym c.in_ok-items.ensures.items) (first_outside h (1 ∷ []) c.args.cards.now c.requires.outside)

pub claim_round-requires-clause-rise : goal.claim_round-requires-clause-rise
claim_round-requires-clause-rise g c κs within =
    let h = c.args.heap.now in
    subst (λ l. Rises (all_pairs h (1 ∷ []) l)) (sym c.in_ok-items.ensures.items)
    (first_rises h c.geometry.ensures.valid (1 ∷ []) c.args.cards.now c.requires.region c.requires.cards c.requires.outside c.requires.lead_in)

pub claim_round-requires-clause-ranks : goal.claim_round-requires-clause-ranks
claim_round-requires-clause-ranks g c κs within =
    let h = c.args.heap.now in
    subst (λ l. AreRanks (all_pairs h (1 ∷ []) l)) (sym c.in_ok-items.ensures.items)
    (first_ranks h c.geometry.ensures.valid (1 ∷ []) c.args.cards.now c.requires.region c.requires.cards c.requires.outside c.requires.lead_in)

-- where a search stands after the first round
after_first : (g : Over) (c : goal.After-claim_round-arg-2-1 g)
    → IsSearchBy c.args.heap.now (1 ∷ []) (length {A = ℕ} (1 ∷ []) * c.args.heap.now.geometry.w) (place c.args.heap.now (1 ∷ []))
    (going_on c.args.heap.now c.in_ok-claims-2.claims c.in_ok-claims-2.seat c.in_ok-found.found)
after_first g c =
    let h = c.args.heap.now in
    let r = c.in_ok-claims-2.ensures in
    let items = c.in_ok-items.ensures.items in
    let none : c.in_ok-claims.seat.hand.offers ≡ [] = ap (λ (v : Hand). v.offers) c.in_ok-claims.ensures.hand in
    is_going_on h c.geometry.ensures.valid c.args.cards.now c.requires.region c.requires.cards c.requires.outside c.requires.lead_in
    c.in_ok-claims-2.claims c.in_ok-claims-2.seat c.in_ok-found.found
    (r.table ∙ sym (ap (λ (t : TableView). t.id) r.claims))
    r.whole
    (ap (λ (t : TableView). t.places) r.claims ∙ c.in_ok-claims.ensures.places ∙ c.region_words.ensures.value ∙ ap (λ q. q.w) c.geometry.ensures.same)
    (subst (λ (os : List Offer). AddsOffers (place h (1 ∷ [])) (all_pairs h (1 ∷ []) (first_items (length h.roots) c.args.cards.now)) os c.in_ok-claims-2.seat.hand.offers) none
    (subst (λ (l : List Item). AddsOffers (place h (1 ∷ [])) (all_pairs h (1 ∷ []) l) c.in_ok-claims.seat.hand.offers c.in_ok-claims-2.seat.hand.offers) items r.offers))
    (c.in_ok-found.ensures ∙ ap (map (λ (q : ℕ × ℕ). q.1)) (c.deref.ensures.value ∙ r.won)
    ∙ ap (λ (l : List Item). map (λ (q : ℕ × ℕ). q.1) (winners (place h (1 ∷ [])) c.in_ok-claims-2.seat.hand.offers (all_pairs h (1 ∷ []) l))) items)

-- the items of the second round, as the two objects that were found
two : (g : Over) (c : goal.After-claim_round-arg-2-1 g) → c.in_ok-items-2.items ≡ object_items c.args.heap.now (length c.args.heap.now.roots + length c.args.heap.now.words) c.in_ok-found.found.items
two g c = c.in_ok-items-2.ensures.items ∙ ap (object_items c.args.heap.now (length c.args.heap.now.roots + length c.args.heap.now.words)) c.deref-2.ensures.value

pub claim_round-requires-2-clause-items : goal.claim_round-requires-2-clause-items
claim_round-requires-2-clause-items g c κs within =
    let h = c.args.heap.now in
    subst (All (IsItem h)) (sym (two g c)) (rest_are_items h c.geometry.ensures.valid (1 ∷ []) c.requires.region _ (after_first g c))

pub claim_round-requires-2-clause-outside : goal.claim_round-requires-2-clause-outside
claim_round-requires-2-clause-outside g c κs within =
    let h = c.args.heap.now in
    subst (All (IsOutside h (1 ∷ []))) (sym (two g c)) (objects_outside h (1 ∷ []) (length h.roots + length h.words) c.in_ok-found.found.items)

pub claim_round-requires-2-clause-rise : goal.claim_round-requires-2-clause-rise
claim_round-requires-2-clause-rise g c κs within =
    let h = c.args.heap.now in
    subst (λ l. Rises (all_pairs h (1 ∷ []) l)) (sym (two g c)) (rest_rises h c.geometry.ensures.valid (1 ∷ []) c.requires.region _ (after_first g c))

pub claim_round-requires-2-clause-ranks : goal.claim_round-requires-2-clause-ranks
claim_round-requires-2-clause-ranks g c κs within =
    let h = c.args.heap.now in
    subst (λ l. AreRanks (all_pairs h (1 ∷ []) l)) (sym (two g c)) (rest_ranks h c.geometry.ensures.valid (1 ∷ []) c.requires.region _ (after_first g c))

pub claim_round-requires-2-clause-above : goal.claim_round-requires-2-clause-above
claim_round-requires-2-clause-above g c κs within =
    let h = c.args.heap.now in
    subst (λ l. AreAbove c.in_ok-claims-2.seat.hand.offers (all_pairs h (1 ∷ []) l)) (sym (two g c)) (rest_above h c.geometry.ensures.valid (1 ∷ []) c.requires.region _ (after_first g c))
