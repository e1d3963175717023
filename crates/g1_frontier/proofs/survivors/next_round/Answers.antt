use Rattle.std.proofs.Common.{arith, refl, ap, sym, subst, ◌≡◌, ◌+◌, ◌-◌, ◌<◌, ◌^◌, ◌∙◌, ◌++◌, ℕ, List, length, map, take, drop, sum_by, All, Contains}
use Rattle.g1_words.specs.Heap.{objects, object_at}
use Rattle.g1_frontier.specs.Scope.{place_in}
use Rattle.std.proofs.lemmas.List.{length-map, take_rest}
use Rattle.g1_frontier.specs.Items.{IsItem, AreRanks, all_pairs, object_items, slot_count, items_at, numbered_on}
use Rattle.g1_frontier.proofs.Soughts.{items_numbered, sum_counts, numbered_length}
use Rattle.g1_frontier.specs.Round.{Rises, AreAbove, AddsOffers, winners}
use Rattle.g1_frontier.proofs.Searching.{rest_objects, ranks_fit, rest_are_items, rest_few, rest_rises, rest_ranks, rest_above, next_search}
use Rattle.g1_frontier.proofs.survivors.next_round.Goals as goal

pub slot_counts_by-requires-clause-objects : goal.slot_counts_by-requires-clause-objects
slot_counts_by-requires-clause-objects g c κs within =
    let h = c.args.scope.now.heap.now in
    let s = c.args.search in
    let cut : take (length c.deref.result.now - s.from) (drop s.from c.deref.result.now) ≡ drop s.from s.found.items =
    ap (λ (l : List ℕ). take (length l - s.from) (drop s.from l)) c.deref.ensures.value ∙ take_rest s.found.items s.from in
    subst (All (λ a. Contains (objects h) (object_at h a))) (sym cut) (rest_objects h c.requires.scope.valid c.args.scope.now.window.now c.requires.scope.regions s c.requires.search)

pub number_on-next-requires : goal.number_on-next-requires
number_on-next-requires g c =
    let h = c.args.scope.now.heap.now in
    let s = c.args.search in
    let cut : take (length c.deref.result.now - s.from) (drop s.from c.deref.result.now) ≡ drop s.from s.found.items =
    ap (λ (l : List ℕ). take (length l - s.from) (drop s.from l)) c.deref.ensures.value ∙ take_rest s.found.items s.from in
    let part : List ℕ = take (length c.deref.result.now - s.from) (drop s.from c.deref.result.now) in
    let total : sum_by (λ (n : ℕ). n) c.in_ok-bases.bases.items ≡ sum_by (slot_count h) (drop s.from s.found.items) =
    ap (sum_by (λ (n : ℕ). n)) c.in_ok-bases.ensures.ok ∙ sum_counts h part ∙ ap (sum_by (slot_count h)) cut in
    subst (λ n. s.next + n < 2 ^ 32) (sym total) (ranks_fit h c.requires.scope.valid c.args.scope.now.window.now c.requires.scope.regions s c.requires.search)

pub round_in-requires-clause-paired : goal.round_in-requires-clause-paired
round_in-requires-clause-paired g c κs within =
    let h = c.args.scope.now.heap.now in
    let s = c.args.search in
    let part : List ℕ = take (length c.deref.result.now - s.from) (drop s.from c.deref.result.now) in
    ap length (c.as_slice.ensures.value ∙ c.number_on-next.ensures.numbers) ∙ numbered_length s.next c.in_ok-bases.bases.items ∙ ap length c.in_ok-bases.ensures.ok ∙ length-map part (slot_count h)

pub round_in-requires-clause-items : goal.round_in-requires-clause-items
round_in-requires-clause-items g c κs within =
    let h = c.args.scope.now.heap.now in
    let s = c.args.search in
    let cut : take (length c.deref.result.now - s.from) (drop s.from c.deref.result.now) ≡ drop s.from s.found.items =
    ap (λ (l : List ℕ). take (length l - s.from) (drop s.from l)) c.deref.ensures.value ∙ take_rest s.found.items s.from in
    let part : List ℕ = take (length c.deref.result.now - s.from) (drop s.from c.deref.result.now) in
    let listed : items_at part c.as_slice.result.now ≡ object_items h s.next (drop s.from s.found.items) =
    ap (items_at part) (c.as_slice.ensures.value ∙ c.number_on-next.ensures.numbers ∙ ap (numbered_on s.next) c.in_ok-bases.ensures.ok) ∙ items_numbered h s.next part ∙ ap (object_items h s.next) cut in
    subst (All (IsItem h)) (sym listed) (rest_are_items h c.requires.scope.valid c.args.scope.now.window.now c.requires.scope.regions s c.requires.search)

pub round_in-requires-clause-few : goal.round_in-requires-clause-few
round_in-requires-clause-few g c κs within =
    let h = c.args.scope.now.heap.now in
    let s = c.args.search in
    let cut : take (length c.deref.result.now - s.from) (drop s.from c.deref.result.now) ≡ drop s.from s.found.items =
    ap (λ (l : List ℕ). take (length l - s.from) (drop s.from l)) c.deref.ensures.value ∙ take_rest s.found.items s.from in
    let part : List ℕ = take (length c.deref.result.now - s.from) (drop s.from c.deref.result.now) in
    let listed : items_at part c.as_slice.result.now ≡ object_items h s.next (drop s.from s.found.items) =
    ap (items_at part) (c.as_slice.ensures.value ∙ c.number_on-next.ensures.numbers ∙ ap (numbered_on s.next) c.in_ok-bases.ensures.ok) ∙ items_numbered h s.next part ∙ ap (object_items h s.next) cut in
    subst (λ l. length l < 2 ^ 32) (sym listed) (rest_few h c.requires.scope.valid c.args.scope.now.window.now c.requires.scope.regions s c.requires.search)

pub round_in-requires-clause-rise : goal.round_in-requires-clause-rise
round_in-requires-clause-rise g c κs within =
    let h = c.args.scope.now.heap.now in
    let s = c.args.search in
    let cut : take (length c.deref.result.now - s.from) (drop s.from c.deref.result.now) ≡ drop s.from s.found.items =
    ap (λ (l : List ℕ). take (length l - s.from) (drop s.from l)) c.deref.ensures.value ∙ take_rest s.found.items s.from in
    let part : List ℕ = take (length c.deref.result.now - s.from) (drop s.from c.deref.result.now) in
    let listed : items_at part c.as_slice.result.now ≡ object_items h s.next (drop s.from s.found.items) =
    ap (items_at part) (c.as_slice.ensures.value ∙ c.number_on-next.ensures.numbers ∙ ap (numbered_on s.next) c.in_ok-bases.ensures.ok) ∙ items_numbered h s.next part ∙ ap (object_items h s.next) cut in
    subst (λ l. Rises (all_pairs h c.args.scope.now.window.now l)) (sym listed) (rest_rises h c.requires.scope.valid c.args.scope.now.window.now c.requires.scope.regions s c.requires.search)

pub round_in-requires-clause-ranks : goal.round_in-requires-clause-ranks
round_in-requires-clause-ranks g c κs within =
    let h = c.args.scope.now.heap.now in
    let s = c.args.search in
    let cut : take (length c.deref.result.now - s.from) (drop s.from c.deref.result.now) ≡ drop s.from s.found.items =
    ap (λ (l : List ℕ). take (length l - s.from) (drop s.from l)) c.deref.ensures.value ∙ take_rest s.found.items s.from in
    let part : List ℕ = take (length c.deref.result.now - s.from) (drop s.from c.deref.result.now) in
    let listed : items_at part c.as_slice.result.now ≡ object_items h s.next (drop s.from s.found.items) =
    ap (items_at part) (c.as_slice.ensures.value ∙ c.number_on-next.ensures.numbers ∙ ap (numbered_on s.next) c.in_ok-bases.ensures.ok) ∙ items_numbered h s.next part ∙ ap (object_items h s.next) cut in
    subst (λ l. AreRanks (all_pairs h c.args.scope.now.window.now l)) (sym listed) (rest_ranks h c.requires.scope.valid c.args.scope.now.window.now c.requires.scope.regions s c.requires.search)

pub round_in-requires-clause-above : goal.round_in-requires-clause-above
round_in-requires-clause-above g c κs within =
    let h = c.args.scope.now.heap.now in
    let s = c.args.search in
    let cut : take (length c.deref.result.now - s.from) (drop s.from c.deref.result.now) ≡ drop s.from s.found.items =
    ap (λ (l : List ℕ). take (length l - s.from) (drop s.from l)) c.deref.ensures.value ∙ take_rest s.found.items s.from in
    let part : List ℕ = take (length c.deref.result.now - s.from) (drop s.from c.deref.result.now) in
    let listed : items_at part c.as_slice.result.now ≡ object_items h s.next (drop s.from s.found.items) =
    ap (items_at part) (c.as_slice.ensures.value ∙ c.number_on-next.ensures.numbers ∙ ap (numbered_on s.next) c.in_ok-bases.ensures.ok) ∙ items_numbered h s.next part ∙ ap (object_items h s.next) cut in
    subst (λ l. AreAbove s.seat.hand.offers (all_pairs h c.args.scope.now.window.now l)) (sym listed)
    (rest_above h c.requires.scope.valid c.args.scope.now.window.now c.requires.scope.regions s c.requires.search)

pub returns-clause-ok : goal.returns-clause-ok
returns-clause-ok g c =
    let h = c.args.scope.now.heap.now in
    let s = c.args.search in
    let window : List ℕ = c.args.scope.now.window.now in
    let cut : take (length c.deref.result.now - s.from) (drop s.from c.deref.result.now) ≡ drop s.from s.found.items =
    ap (λ (l : List ℕ). take (length l - s.from) (drop s.from l)) c.deref.ensures.value ∙ take_rest s.found.items s.from in
    let part : List ℕ = take (length c.deref.result.now - s.from) (drop s.from c.deref.result.now) in
    let listed : items_at part c.as_slice.result.now ≡ object_items h s.next (drop s.from s.found.items) =
    ap (items_at part) (c.as_slice.ensures.value ∙ c.number_on-next.ensures.numbers ∙ ap (numbered_on s.next) c.in_ok-bases.ensures.ok) ∙ items_numbered h s.next part ∙ ap (object_items h s.next) cut in
    let r = c.in_ok-seat.ensures.ok in
    next_search h c.requires.scope.valid window c.requires.scope.regions s c.requires.search c.requires.scope.numbers
    (record { claims = s.claims; seat = c.in_ok-seat.seat; found = c.push_addresses.new.found; from = c.len-from.result; next = c.number_on-next.result })
    r.table
    r.whole
    refl
    (subst (λ l. AddsOffers (place_in c.args.scope.now) (all_pairs h window l) s.seat.hand.offers c.in_ok-seat.seat.hand.offers) listed r.offers)
    (c.in_ok-push_addresses.ensures ∙ ap (λ (l : List (ℕ × ℕ)). s.found.items ++ map (λ (q : ℕ × ℕ). q.1) l) (c.as_slice-2.ensures.value ∙ r.won
    ∙ ap (λ l. winners (place_in c.args.scope.now) c.in_ok-seat.seat.hand.offers (all_pairs h window l)) listed))
    (omega (arith, c.len-from.ensures, s.found.ok))
    (c.number_on-next.ensures.next ∙ ap (λ n. s.next + n) (ap (sum_by (λ (n : ℕ). n)) c.in_ok-bases.ensures.ok ∙ sum_counts h part ∙ ap (sum_by (slot_count h)) cut))

pub round_in-requires-clause-scope : goal.round_in-requires-clause-scope
round_in-requires-clause-scope g c κs within = c.requires.scope

pub round_in-requires-clause-table : goal.round_in-requires-clause-table
round_in-requires-clause-table g c κs within = c.requires.search.seat

pub round_in-requires-clause-whole : goal.round_in-requires-clause-whole
round_in-requires-clause-whole g c κs within = c.requires.search.whole

pub round_in-requires-clause-places : goal.round_in-requires-clause-places
round_in-requires-clause-places g c κs within = omega (arith, c.requires.search.places)

pub returns-clause-from : goal.returns-clause-from
returns-clause-from g c = c.len-from.ensures
