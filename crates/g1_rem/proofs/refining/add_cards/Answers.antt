use Rattle.std.proofs.Common.{◌≡◌, ◌<◌, ◌++◌, ◌∷◌, [], ◌∙◌, slice_index, take, map, Contains, arith, ap, sym, subst}
use Rattle.std.proofs.lemmas.List.{take_more, get_or-take, get_or_default, length-take}
use Rattle.std.proofs.lemmas.List.Kept.{AllPairs-from_increasing}
use Rattle.g1_words.specs.Heap.{Heap}
use Rattle.g1_words.specs.Valid.{IsValid}
use Rattle.g1_image.specs.Image.{Image}
use Rattle.g1_rem.specs.Entering.{AreEntering, IsGrown}
use Rattle.g1_rem.proofs.Entering.{entering_start, entering_step, entering_below, slot_good}
use Rattle.g1_rem.proofs.refining.add_cards.Goals as goal
use Rattle.g1_rem.proofs.refining.add_cards.Goals.{After-heap-heap}

the_heap : (c : After-heap-heap) → c.heap-heap.result.now ≡ c.args.indexed.now.heap
the_heap c = c.heap-heap.ensures.same ∙ ap (λ (i : Image). i.heap) c.indexed.view_is

pub add_card-requires-clause-slots : goal.add_card-requires-clause-slots
add_card-requires-clause-slots c = λ p k. slot_good c.heap-heap.result.now (slice_index c.args.dirty.now c.loop-card.card-index) p
    (subst IsValid (sym c.heap-heap.ensures.same) c.heap-heap.ensures.valid.heap)
    (subst (λ l. Contains l p) (c.as_slice.ensures ∙ c.slots_on-slots.ensures.items) k)

pub add_card-requires-clause-below : goal.add_card-requires-clause-below
add_card-requires-clause-below c =
    let same = the_heap (goal.at.add_card-requires-clause-below c).After-heap-heap in
    entering_below c.heap-heap.result.now (take c.loop-card.card-index c.args.dirty.now) (map (λ s. s.items) c.loop-card.entering) (slice_index c.args.dirty.now c.loop-card.card-index)
    (subst (λ (h : Heap). AreEntering h (take c.loop-card.card-index c.args.dirty.now) (map (λ s. s.items) c.loop-card.entering)) (sym same) c.loop-card.invariant)
    (λ k d lt.
    let below : k < c.loop-card.card-index = omega (arith, lt, length-take c.loop-card.card-index c.args.dirty.now) in
    let less = AllPairs-from_increasing c.args.dirty.now c.requires.rising k c.loop-card.card-index 0 below c.loop-card-test.true in
    let same = get_or-take c.loop-card.card-index c.args.dirty.now k d below ∙ get_or_default c.args.dirty.now k d 0 (omega (arith, below, c.loop-card-test.true)) in
    omega (arith, less, same))

pub loop-card-init : goal.loop-card-init
loop-card-init c = entering_start c.args.indexed.now.heap (map (λ s. s.items) c.args.entering.now) c.requires.none

pub loop-card-preserved : goal.loop-card-preserved
loop-card-preserved c =
    let same = the_heap (goal.at.loop-card-preserved c).After-heap-heap in
    let more = take_more c.args.dirty.now c.loop-card.card-index 0 c.loop-card-test.true in
    let added = subst (λ l. IsGrown c.heap-heap.result.now (slice_index c.args.dirty.now c.loop-card.card-index) l (map (λ s. s.items) c.loop-card.entering)
    (map (λ s. s.items) c.add_card.new.entering)) (c.as_slice.ensures ∙ c.slots_on-slots.ensures.items) c.in_ok-add_card.ensures in
    subst (λ l. AreEntering c.args.indexed.now.heap l (map (λ s. s.items) c.add_card.new.entering)) (sym more)
    (subst (λ (h : Heap). AreEntering h (take c.loop-card.card-index c.args.dirty.now ++ slice_index c.args.dirty.now c.loop-card.card-index ∷ []) (map (λ s. s.items) c.add_card.new.entering)) same
    (entering_step c.heap-heap.result.now (take c.loop-card.card-index c.args.dirty.now) (slice_index c.args.dirty.now c.loop-card.card-index)
    (map (λ s. s.items) c.loop-card.entering) (map (λ s. s.items) c.add_card.new.entering)
    (subst (λ (h : Heap). AreEntering h (take c.loop-card.card-index c.args.dirty.now) (map (λ s. s.items) c.loop-card.entering)) (sym same) c.loop-card.invariant)
    added))

pub loop-card-smaller : goal.loop-card-smaller
loop-card-smaller c = omega (arith, c.loop-card-test.true)
