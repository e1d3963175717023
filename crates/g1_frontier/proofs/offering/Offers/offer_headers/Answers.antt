use Rattle.std.proofs.Common.{◌<◌, ◌^◌, ◌∙◌, ℕ, List, ap, sym, get_or, arith, subst}
use Rattle.std.proofs.lemmas.List.{take_all, get_or-map}
use Rattle.std.proofs.lemmas.List.Elements.{Contains-get_or}
use Rattle.g1_words.specs.Heap.{object_at}
use Rattle.g1_words.specs.declared.object.Object.{Object as Header}
use Rattle.g1_frontier.specs.declared.item.Item.{Item}
use Rattle.g1_frontier.specs.declared.item.Item.TheVariants.{Root}
use Rattle.g1_frontier.specs.Items.{IsItem, AreRanks, items_at}
use Rattle.g1_frontier.specs.Offering.{HasTried}
use Rattle.g1_frontier.specs.Scope.{place_in, pairs_in, all_pairs_in}
use Rattle.g1_frontier.proofs.Offerings.{tried_none, tried_more}
use Rattle.g1_frontier.proofs.Scopes.{all_part}
use Rattle.g1_frontier.proofs.Soughts.{items_length, items_get}
use Rattle.g1_frontier.proofs.offering.Offers.offer_headers.Goals as goal

pub loop-index-init : goal.loop-index-init
loop-index-init c = tried_none (place_in c.args.self.now.scope.now) c.args.holder.now

pub loop-index-smaller : goal.loop-index-smaller
loop-index-smaller c = omega (arith, c.loop-index-test.true)

pub offer_object-requires-clause-places : goal.offer_object-requires-clause-places
offer_object-requires-clause-places c = c.requires.places

pub offer_object-requires-clause-seat : goal.offer_object-requires-clause-seat
offer_object-requires-clause-seat c = c.loop-index.invariant.table ∙ c.requires.seat

pub offer_object-requires-clause-object : goal.offer_object-requires-clause-object
offer_object-requires-clause-object c =
    let h = c.args.self.now.scope.now.heap.now in
    let xs : List Item = items_at c.args.addresses.now c.args.bases.now in
    let i : ℕ = c.loop-index.index in
    let long = items_length c.args.addresses.now c.args.bases.now c.requires.paired in
    subst (IsItem h) (items_get c.args.addresses.now c.args.bases.now i 0 c.loop-index-test.true c.requires.paired) (c.requires.items i (Root 0) (omega (arith, long, c.loop-index-test.true)))

pub offer_object-requires-clause-slots : goal.offer_object-requires-clause-slots
offer_object-requires-clause-slots c =
    let h = c.args.self.now.scope.now.heap.now in
    let i : ℕ = c.loop-index.index in
    let none : Header = record { at = 0; size = 0; refs = 0 } in
    ap (λ (l : List Header). (get_or l i none).refs) c.requires.ahead ∙ ap (λ (o : Header). o.refs) (get_or-map (object_at h) c.args.addresses.now i 0 none c.loop-index-test.true)

pub offer_object-requires-clause-ranks : goal.offer_object-requires-clause-ranks
offer_object-requires-clause-ranks c =
    let s = c.args.self.now.scope.now in
    let xs : List Item = items_at c.args.addresses.now c.args.bases.now in
    let i : ℕ = c.loop-index.index in
    let long = items_length c.args.addresses.now c.args.bases.now c.requires.paired in
    subst (λ x. AreRanks (pairs_in s x)) (items_get c.args.addresses.now c.args.bases.now i 0 c.loop-index-test.true c.requires.paired)
    (all_part (λ q. q.0 < 2 ^ 32) (pairs_in s) xs (get_or xs i (Root 0)) c.requires.ranks (Contains-get_or xs i (Root 0) (omega (arith, long, c.loop-index-test.true))))

pub loop-index-preserved : goal.loop-index-preserved
loop-index-preserved c =
    let s = c.args.self.now.scope.now in
    let xs : List Item = items_at c.args.addresses.now c.args.bases.now in
    let i : ℕ = c.loop-index.index in
    let long = items_length c.args.addresses.now c.args.bases.now c.requires.paired in
    tried_more (place_in s) (pairs_in s) xs i (Root 0) c.args.holder.now c.loop-index.holder c.offer_object.new.holder
    (omega (arith, long, c.loop-index-test.true)) c.loop-index.invariant
    (subst (λ x. HasTried (place_in s) (pairs_in s x) c.loop-index.holder c.offer_object.new.holder)
    (sym (items_get c.args.addresses.now c.args.bases.now i 0 c.loop-index-test.true c.requires.paired)) c.in_ok-offer_object.ensures)

pub returns : goal.returns
returns c =
    let s = c.args.self.now.scope.now in
    let xs : List Item = items_at c.args.addresses.now c.args.bases.now in
    let long = items_length c.args.addresses.now c.args.bases.now c.requires.paired in
    subst (λ l. HasTried (place_in s) (all_pairs_in s l) c.args.holder.now c.loop-index.holder) (take_all c.loop-index.index xs (omega (arith, long, c.loop-index-test.false))) c.loop-index.invariant
