use Rattle.std.proofs.Common.{◌≡◌, ◌<◌, ◌*◌, ◌/◌, ◌∙◌, ap, arith, length, subst, sym}
use Rattle.std.specs.List.Sorted.{IsStrictlyIncreasing}
use Rattle.std.proofs.lemmas.List.{length-map}
use Rattle.g1_words.specs.Heap.{Heap}
use Rattle.g1_image.specs.Image.{remembered_of}
use Rattle.g1_rem.specs.Places.{IsBehind}
use Rattle.g1_rem.proofs.Bare.{set_read}
use Rattle.g1_rem.proofs.Places.{placed_none, placed_more, placed_all}
use Rattle.g1_rem.proofs.cover.places_at.Goals as goal
use Rattle.g1_rem.proofs.cover.places_at.Goals.{After-deref}

-- a set for each region
count : (c : After-deref) → length c.remembered-set-items.result.now ≡ c.args.image.now.heap.geometry.n
count c = sym (length-map c.remembered-set-items.result.now (λ s. s.items)) ∙ ap length c.remembered-set-items.ensures ∙ c.heap.ensures.valid.one_each

below : (c : After-deref) → c.loop-set.set-index < c.args.image.now.heap.geometry.n
below c = let n = count c in omega (arith, c.loop-set-test.true, n)

-- the list that is read is the region's set
the_set : (c : After-deref) → c.deref.result.now ≡ remembered_of c.args.image.now c.loop-set.set-index
the_set c =
    c.deref.ensures.value ∙ set_read (λ s. s.items) c.args.image.now c.remembered-set-items.result.now c.loop-set.set-index c.set-item.result
    c.heap.ensures.valid c.remembered-set-items.ensures (below c) c.set-item.is

pub loop-set-init : goal.loop-set-init
loop-set-init c = placed_none c.args.image.now c.card_of-card.result c.in_ok-places.places.items c.in_ok-places.ensures.items

pub first_place-requires : goal.first_place-requires
first_place-requires c =
    let b = (goal.at.first_place-requires c).After-deref in
    subst (λ l. IsStrictlyIncreasing l) (sym (the_set b)) (c.heap.ensures.valid.remembered c.loop-set.set-index (below b)).rising

pub loop-set-preserved : goal.loop-set-preserved
loop-set-preserved c =
    let b = (goal.at.loop-set-preserved c).After-deref in
    placed_more c.args.image.now c.card_of-card.result c.loop-set.set-index c.loop-set.places.items c.push.new.self.items c.first_place.result c.loop-set.invariant c.in_ok-push.ensures.items
    (subst (λ l. IsBehind l c.first_place.result c.card_of-card.result) (the_set b) c.first_place.ensures)

pub returns : goal.returns
returns c =
    let n : length c.remembered-set-items.result.now ≡ c.args.image.now.heap.geometry.n =
    sym (length-map c.remembered-set-items.result.now (λ s. s.items)) ∙ ap length c.remembered-set-items.ensures ∙ c.heap.ensures.valid.one_each in
    let start : c.start.result ≡ c.args.region * c.args.image.now.heap.geometry.w =
    c.start.ensures.value ∙ ap (λ g. c.args.region * g.w) c.geometry-geometry.ensures.same ∙ ap (λ (h : Heap). c.args.region * h.geometry.w) c.heap.ensures.same in
    let card = c.card_of-card.ensures ∙ ap (λ g. c.start.result / g.k) c.geometry-geometry.ensures.same ∙ ap (λ (h : Heap). c.start.result / h.geometry.k) c.heap.ensures.same
    ∙ ap (λ x. x / c.args.image.now.heap.geometry.k) start in
    placed_all c.args.image.now c.args.region c.card_of-card.result c.loop-set.set-index c.loop-set.places.items c.heap.ensures.valid.heap c.requires
    card (omega (arith, c.loop-set-test.false, c.loop-set.auto.set-index-end, n)) c.loop-set.invariant
