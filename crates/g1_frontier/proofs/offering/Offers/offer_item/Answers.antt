use Rattle.std.proofs.Common.{◌≡◌, ◌<◌, ◌+◌, arith, ap, get_or, length, sym, subst, OnOk}
use Rattle.g1_words.specs.Valid.{IsReference}
use Rattle.g1_frontier.specs.Items.{IsItem, AreRanks, item_slots}
use Rattle.g1_frontier.proofs.Names.{root_reference}
use Rattle.g1_frontier.specs.Scope.{place_in, aims_in, pairs_in}
use Rattle.g1_frontier.specs.Offering.{HasTried}
use Rattle.g1_frontier.proofs.offering.Offers.offer_item.Goals as goal

pub returns-in-Root : goal.returns-in-Root
returns-in-Root c =
    let s = c.args.self.now.scope.now in
    let i = c.in-Root.index in
    let rank : c.in-Root.index + 0 ≡ c.in-Root.index = omega arith in
    let named = subst (λ r. OnOk c.offer_named.result (HasTried (place_in s) (aims_in s r (get_or c.roots.result.now i 0)) c.args.holder.now c.offer_named.new.holder)) rank c.offer_named.ensures in
    subst (λ x. OnOk c.offer_named.result (HasTried (place_in s) (pairs_in s x) c.args.holder.now c.offer_named.new.holder)) (sym c.in-Root.is)
    (subst (λ l. OnOk c.offer_named.result (HasTried (place_in s) (aims_in s i (get_or l i 0)) c.args.holder.now c.offer_named.new.holder)) c.roots.ensures named)

pub returns-in-Card : goal.returns-in-Card
returns-in-Card c =
    let s = c.args.self.now.scope.now in
    subst (λ x. OnOk c.offer_card.result (HasTried (place_in s) (pairs_in s x) c.args.holder.now c.offer_card.new.holder)) (sym c.in-Card.is) c.offer_card.ensures

pub returns-in-Object : goal.returns-in-Object
returns-in-Object c =
    let s = c.args.self.now.scope.now in
    subst (λ x. OnOk c.offer_object.result (HasTried (place_in s) (pairs_in s x) c.args.holder.now c.offer_object.new.holder)) (sym c.in-Object.is) c.offer_object.ensures

pub offset_bounds-roots-index : goal.offset_bounds-roots-index
offset_bounds-roots-index c =
    let s = c.args.self.now.scope.now in
    let low : c.in-Root.index < length s.heap.now.roots = subst (IsItem s.heap.now) c.in-Root.is c.requires.item in
    omega (arith, low, c.requires.places.scope.valid.root_count)

pub bounds-roots-index : goal.bounds-roots-index
bounds-roots-index c =
    let s = c.args.self.now.scope.now in
    let low : c.in-Root.index < length s.heap.now.roots = subst (IsItem s.heap.now) c.in-Root.is c.requires.item in
    omega (arith, low, ap length c.roots.ensures)

pub offer_named-requires-clause-reference : goal.offer_named-requires-clause-reference
offer_named-requires-clause-reference c =
    let s = c.args.self.now.scope.now in
    let low : c.in-Root.index < length s.heap.now.roots = subst (IsItem s.heap.now) c.in-Root.is c.requires.item in
    subst (λ l. IsReference s.heap.now (get_or l c.in-Root.index 0)) (sym c.roots.ensures) (root_reference s.heap.now c.requires.places.scope.valid c.in-Root.index low)

pub offer_named-requires-clause-ranks : goal.offer_named-requires-clause-ranks
offer_named-requires-clause-ranks c =
    let s = c.args.self.now.scope.now in
    let rank : c.in-Root.index ≡ c.in-Root.index + 0 = omega arith in
    subst (λ l. AreRanks (aims_in s (c.in-Root.index + 0) (get_or l c.in-Root.index 0))) (sym c.roots.ensures)
    (subst (λ r. AreRanks (aims_in s r (get_or s.heap.now.roots c.in-Root.index 0))) rank (subst (λ x. AreRanks (pairs_in s x)) c.in-Root.is c.requires.ranks))

pub offer_card-requires-clause-card : goal.offer_card-requires-clause-card
offer_card-requires-clause-card c = subst (IsItem c.args.self.now.scope.now.heap.now) c.in-Card.is c.requires.item

pub offer_card-requires-clause-ranks : goal.offer_card-requires-clause-ranks
offer_card-requires-clause-ranks c = subst (λ x. AreRanks (pairs_in c.args.self.now.scope.now x)) c.in-Card.is c.requires.ranks

pub offer_object-requires-clause-object : goal.offer_object-requires-clause-object
offer_object-requires-clause-object c = subst (IsItem c.args.self.now.scope.now.heap.now) c.in-Object.is c.requires.item

pub offer_object-requires-clause-ranks : goal.offer_object-requires-clause-ranks
offer_object-requires-clause-ranks c = subst (λ x. AreRanks (pairs_in c.args.self.now.scope.now x)) c.in-Object.is c.requires.ranks

pub offer_named-requires-clause-places : goal.offer_named-requires-clause-places
offer_named-requires-clause-places c = c.requires.places

pub offer_named-requires-clause-seat : goal.offer_named-requires-clause-seat
offer_named-requires-clause-seat c = c.requires.seat

pub offer_card-requires-clause-places : goal.offer_card-requires-clause-places
offer_card-requires-clause-places c = c.requires.places

pub offer_card-requires-clause-seat : goal.offer_card-requires-clause-seat
offer_card-requires-clause-seat c = c.requires.seat

pub offer_object-requires-clause-places : goal.offer_object-requires-clause-places
offer_object-requires-clause-places c = c.requires.places

pub offer_object-requires-clause-seat : goal.offer_object-requires-clause-seat
offer_object-requires-clause-seat c = c.requires.seat

pub offer_object-requires-clause-slots : goal.offer_object-requires-clause-slots
offer_object-requires-clause-slots c = subst (λ x. c.args.slots ≡ item_slots c.args.self.now.scope.now.heap.now x) c.in-Object.is c.requires.slots
