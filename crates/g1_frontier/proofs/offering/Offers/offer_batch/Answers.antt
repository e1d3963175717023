use Rattle.std.proofs.Common.{ℕ, List, ◌<◌, ◌^◌, ◌∙◌, ap, get_or, length, arith, subst}
use Rattle.std.proofs.lemmas.List.{take_all, get_or-map, length-map}
use Rattle.std.proofs.lemmas.List.Elements.{Contains-get_or}
use Rattle.g1_frontier.specs.Items.{item_slots}
use Rattle.g1_frontier.specs.declared.item.Item.TheVariants.{Root}
use Rattle.g1_frontier.specs.Offering.{HasTried}
use Rattle.g1_frontier.specs.Scope.{place_in, pairs_in, all_pairs_in}
use Rattle.g1_frontier.proofs.Offerings.{tried_none, tried_more}
use Rattle.g1_frontier.proofs.Scopes.{all_part}
use Rattle.g1_frontier.proofs.offering.Offers.offer_batch.Goals as goal

pub loop-index-init : goal.loop-index-init
loop-index-init c = tried_none (place_in c.args.self.now.scope.now) c.args.holder.now

pub offer_item-requires-clause-ranks : goal.offer_item-requires-clause-ranks
offer_item-requires-clause-ranks c =
    let s = c.args.self.now.scope.now in
    let xs = c.args.items.now in
    all_part (λ q. q.0 < 2 ^ 32) (pairs_in s) xs (get_or xs c.loop-index.index (Root 0)) c.requires.ranks (Contains-get_or xs c.loop-index.index (Root 0) c.loop-index-test.true)

pub loop-index-preserved : goal.loop-index-preserved
loop-index-preserved c =
    let s = c.args.self.now.scope.now in
    tried_more (place_in s) (pairs_in s) c.args.items.now c.loop-index.index (Root 0) c.args.holder.now c.loop-index.holder c.offer_item.new.holder
    c.loop-index-test.true c.loop-index.invariant c.in_ok-offer_item.ensures

pub loop-index-smaller : goal.loop-index-smaller
loop-index-smaller c = omega (arith, c.loop-index-test.true)

pub offer_item-requires-clause-places : goal.offer_item-requires-clause-places
offer_item-requires-clause-places c = c.requires.places

pub offer_item-requires-clause-seat : goal.offer_item-requires-clause-seat
offer_item-requires-clause-seat c = c.loop-index.invariant.table ∙ c.requires.seat

pub offer_item-requires-clause-item : goal.offer_item-requires-clause-item
offer_item-requires-clause-item c = c.requires.items c.loop-index.index (Root 0) c.loop-index-test.true

pub returns : goal.returns
returns c =
    let s = c.args.self.now.scope.now in
    subst (λ l. HasTried (place_in s) (all_pairs_in s l) c.args.holder.now c.loop-index.holder) (take_all c.loop-index.index c.args.items.now c.loop-index-test.false) c.loop-index.invariant

pub offer_item-requires-clause-slots : goal.offer_item-requires-clause-slots
offer_item-requires-clause-slots c =
    let h = c.args.self.now.scope.now.heap.now in
    ap (λ (l : List ℕ). get_or l c.loop-index.index 0) c.requires.counts ∙ get_or-map (item_slots h) c.args.items.now c.loop-index.index (Root 0) 0 c.loop-index-test.true

pub bounds-counts-index : goal.bounds-counts-index
bounds-counts-index c = omega (arith, c.loop-index-test.true, ap length c.requires.counts, length-map c.args.items.now (item_slots c.args.self.now.scope.now.heap.now))
