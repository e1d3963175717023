use Rattle.std.proofs.Common.{arith, refl, ap, sym, subst, ◌≡◌, ◌+◌, ◌<◌, ◌^◌, ◌∙◌, ◌++◌, ℕ, List, [], length, map, All}
use Rattle.g1_claim.specs.declared.rule.Offer.{Offer}
use Rattle.g1_claim.specs.declared.rule.Hand.{Hand}
use Rattle.g1_frontier.specs.Scope.{place_in, place_count}
use Rattle.g1_frontier.proofs.Scopes.{places_fit}
use Rattle.g1_frontier.specs.Items.{IsItem, AreRanks, all_pairs, first_items}
use Rattle.g1_frontier.specs.Round.{Rises, AddsOffers, winners}
use Rattle.g1_frontier.proofs.Searching.{first_are_items, first_few, first_rises, first_ranks, first_search}
use Rattle.g1_frontier.proofs.survivors.first_round.Goals as goal

pub new-requires : goal.new-requires
new-requires g c = let few = places_fit c.args.scope.now c.requires.scope in omega (arith, few, c.places.ensures)

pub round_in-requires-clause-items : goal.round_in-requires-clause-items
round_in-requires-clause-items g c κs within =
    let h = c.args.scope.now.heap.now in
    let listed : c.as_slice-items.result.now ≡ first_items (length h.roots) c.args.cards.now =
    c.as_slice-items.ensures.value ∙ c.in_ok-first.ensures ∙ ap (λ (l : List ℕ). first_items (length l) c.args.cards.now) c.roots.ensures in
    subst (All (IsItem h)) (sym listed) (first_are_items h c.requires.scope.valid c.args.scope.now.window.now c.args.cards.now
    c.requires.scope.regions c.requires.cards c.requires.outside c.requires.lead_in)

pub round_in-requires-clause-few : goal.round_in-requires-clause-few
round_in-requires-clause-few g c κs within =
    let h = c.args.scope.now.heap.now in
    let listed : c.as_slice-items.result.now ≡ first_items (length h.roots) c.args.cards.now =
    c.as_slice-items.ensures.value ∙ c.in_ok-first.ensures ∙ ap (λ (l : List ℕ). first_items (length l) c.args.cards.now) c.roots.ensures in
    subst (λ l. length l < 2 ^ 32) (sym listed) (first_few h c.requires.scope.valid c.args.scope.now.window.now c.args.cards.now
    c.requires.scope.regions c.requires.cards c.requires.outside c.requires.lead_in)

pub round_in-requires-clause-rise : goal.round_in-requires-clause-rise
round_in-requires-clause-rise g c κs within =
    let h = c.args.scope.now.heap.now in
    let listed : c.as_slice-items.result.now ≡ first_items (length h.roots) c.args.cards.now =
    c.as_slice-items.ensures.value ∙ c.in_ok-first.ensures ∙ ap (λ (l : List ℕ). first_items (length l) c.args.cards.now) c.roots.ensures in
    subst (λ l. Rises (all_pairs h c.args.scope.now.window.now l)) (sym listed)
    (first_rises h c.requires.scope.valid c.args.scope.now.window.now c.args.cards.now c.requires.scope.regions c.requires.cards c.requires.outside c.requires.lead_in)

pub round_in-requires-clause-ranks : goal.round_in-requires-clause-ranks
round_in-requires-clause-ranks g c κs within =
    let h = c.args.scope.now.heap.now in
    let listed : c.as_slice-items.result.now ≡ first_items (length h.roots) c.args.cards.now =
    c.as_slice-items.ensures.value ∙ c.in_ok-first.ensures ∙ ap (λ (l : List ℕ). first_items (length l) c.args.cards.now) c.roots.ensures in
    subst (λ l. AreRanks (all_pairs h c.args.scope.now.window.now l)) (sym listed)
    (first_ranks h c.requires.scope.valid c.args.scope.now.window.now c.args.cards.now c.requires.scope.regions c.requires.cards c.requires.outside c.requires.lead_in)

pub returns-clause-ok : goal.returns-clause-ok
returns-clause-ok g c =
    let h = c.args.scope.now.heap.now in
    let window : List ℕ = c.args.scope.now.window.now in
    let listed : c.as_slice-items.result.now ≡ first_items (length h.roots) c.args.cards.now =
    c.as_slice-items.ensures.value ∙ c.in_ok-first.ensures ∙ ap (λ (l : List ℕ). first_items (length l) c.args.cards.now) c.roots.ensures in
    let none : c.in_ok-claims.seat.hand.offers ≡ [] = ap (λ (v : Hand). v.offers) c.in_ok-claims.ensures.hand in
    let r = c.in_ok-seat.ensures.ok in
    first_search h c.requires.scope.valid window c.args.cards.now c.requires.scope.regions c.requires.cards c.requires.outside c.requires.lead_in
    (place_count c.args.scope.now) (place_in c.args.scope.now) c.requires.scope.numbers
    (record { claims = c.in_ok-claims.claims; seat = c.in_ok-seat.seat; found = c.push_addresses.new.found; from = 0; next = length c.roots.result.now + c.len.result })
    r.table
    r.whole
    (c.in_ok-claims.ensures.places ∙ c.places.ensures)
    (subst (λ l. AddsOffers (place_in c.args.scope.now) (all_pairs h window l) [] c.in_ok-seat.seat.hand.offers) listed
    (subst (λ (os : List Offer). AddsOffers (place_in c.args.scope.now) (all_pairs h window c.as_slice-items.result.now) os c.in_ok-seat.seat.hand.offers) none r.offers))
    (c.in_ok-push_addresses.ensures ∙ (λ i. c.new-found.ensures.items i ++ map (λ (q : ℕ × ℕ). q.1)
    ((c.as_slice.ensures.value ∙ r.won ∙ ap (λ l. winners (place_in c.args.scope.now) c.in_ok-seat.seat.hand.offers (all_pairs h window l)) listed) i)))
    refl
    (λ i. length (c.roots.ensures i) + (c.len.ensures ∙ ap length c.words.ensures.same) i)

pub round_in-requires-clause-scope : goal.round_in-requires-clause-scope
round_in-requires-clause-scope g c κs within = c.requires.scope

pub round_in-requires-clause-table : goal.round_in-requires-clause-table
round_in-requires-clause-table g c κs within = c.in_ok-claims.ensures.seat

pub round_in-requires-clause-whole : goal.round_in-requires-clause-whole
round_in-requires-clause-whole g c κs within = ap (λ (v : Hand). v.shares) c.in_ok-claims.ensures.hand

pub round_in-requires-clause-places : goal.round_in-requires-clause-places
round_in-requires-clause-places g c κs within = omega (arith, c.in_ok-claims.ensures.places, c.places.ensures)

pub round_in-requires-clause-above : goal.round_in-requires-clause-above
round_in-requires-clause-above g c κs within =
    let none : c.in_ok-claims.seat.hand.offers ≡ [] = ap (λ (v : Hand). v.offers) c.in_ok-claims.ensures.hand in
    λ k d lt. absurd (omega (arith, lt, ap length none))
