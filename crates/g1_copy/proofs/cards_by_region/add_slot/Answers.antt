use Rattle.std.proofs.Common.{◌≡◌, ◌-◌, ◌/◌, [], ◌∙◌, map, slice_index_or, arith, sym, ap}
use Rattle.std.proofs.lemmas.List.{map-set, get_or-map}
use Rattle.indexmap.proofs.MapLemmas.{OnOk-map}
use Rattle.g1_words.specs.Geometry.{Geometry}
use Rattle.g1_words.specs.Heap.{card_of, region_of}
use Rattle.g1_copy.proofs.LinkingCards.{pushed_at, stays, target_region}
use Rattle.g1_copy.proofs.cards_by_region.add_slot.Goals as goal

-- src/linking.rt:47:9
pub returns-then-region-region_of : goal.returns-then-region-region_of
returns-then-region-region_of c =
    let h = c.args.heap.now in
    let same = c.geometry-geometry.ensures.same in
    let into : c.region_of-region.result ≡ region_of c.args.heap.now (c.args.word - 1) = c.region_of-region.ensures ∙ ap (λ (g : Geometry). (c.args.word - 1) / g.w) same in
    let own : c.region_of.result ≡ region_of c.args.heap.now c.args.slot = c.region_of.ensures ∙ ap (λ (g : Geometry). c.args.slot / g.w) same in
    λ before below e. e ∙ stays h before c.args.slot c.args.word (sym into ∙ c.if-region-region_of.true ∙ own)

-- src/linking.rt:49:15
pub bounds-lists-region : goal.bounds-lists-region
bounds-lists-region c =
    let same = c.geometry-geometry.ensures.same in
    let into : c.region_of-region.result ≡ region_of c.args.heap.now (c.args.word - 1) = c.region_of-region.ensures ∙ ap (λ (g : Geometry). (c.args.word - 1) / g.w) same in
    let lt = target_region c.args.heap.now c.args.word c.geometry-geometry.ensures.valid c.requires.some c.requires.within in
    omega (arith, into, lt, c.requires.one_each)

-- src/linking.rt:36:1
pub returns : goal.returns
returns c =
    let h = c.args.heap.now in
    let same = c.geometry-geometry.ensures.same in
    let r = c.region_of-region.result in
    let into : c.region_of-region.result ≡ region_of c.args.heap.now (c.args.word - 1) = c.region_of-region.ensures ∙ ap (λ (g : Geometry). (c.args.word - 1) / g.w) same in
    let own : c.region_of.result ≡ region_of c.args.heap.now c.args.slot = c.region_of.ensures ∙ ap (λ (g : Geometry). c.args.slot / g.w) same in
    let card : c.card_of.result ≡ card_of c.args.heap.now c.args.slot = c.card_of.ensures ∙ ap (λ (g : Geometry). c.args.slot / g.k) same in
    let lt = target_region c.args.heap.now c.args.word c.geometry-geometry.ensures.valid c.requires.some c.requires.within in
    OnOk-map c.push_once.result _ _ (λ push before below e.
    map-set (λ s. s.items) c.args.lists.now r c.push_once.new.cards
    ∙ pushed_at h before c.args.slot c.args.word r c.card_of.result (map (λ s. s.items) c.args.lists.now)
    (slice_index_or c.args.lists.now r c.index-lists-region.result).items c.push_once.new.cards.items
    c.geometry-geometry.ensures.valid c.requires.inside c.requires.some c.requires.within into card (λ f. c.if-region-region_of.false (into ∙ f ∙ sym own)) below e
    (sym (get_or-map (λ s. s.items) c.args.lists.now r c.index-lists-region.result [] (omega (arith, into, lt, c.requires.one_each)))) push)
    c.push_once.ensures.ok
