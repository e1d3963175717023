use Rattle.std.proofs.Common.{◌≡◌, ◌≤◌, ◌-◌, ◌*◌, ◌∙◌, length, slice_index, arith, ap, sym}
use Rattle.g1_words.specs.Geometry.{Geometry}
use Rattle.g1_copy.specs.Links.{cards_by_region, copied_between}
use Rattle.g1_copy.specs.Plans.{Moving}
use Rattle.g1_copy.proofs.CopiedWords.{AreSlotsAt, in_places, index_small, not_below, run_order, slots_at}
use Rattle.g1_copy.proofs.copied_cards.add_run.Goals as goal
use Rattle.g1_copy.proofs.copied_cards.add_run.Goals.{After-places}

-- where the run's region begins
start_is : (c : After-places) → c.start-start.result ≡ c.args.run.now.region * c.args.moving.now.heap.geometry.w
start_is c = c.start-start.ensures.value ∙ ap (λ (g : Geometry). c.args.run.now.region * g.w) c.geometry.ensures.same

-- its slots
slots : (c : After-places) →
    AreSlotsAt c.args.moving.now.heap c.args.moving.now.plan c.loop-i.i (slice_index c.places.result.now c.loop-i.i) c.args.words.now (slice_index c.places.result.now c.loop-i.i - c.start-start.result)
slots c =
    let m : Moving = c.args.moving.now in
    let place = slice_index c.places.result.now c.loop-i.i in
    slots_at m.heap m.plan c.geometry.ensures.made c.geometry.ensures.valid c.args.run.now c.requires.run c.loop-i.i c.loop-i.auto.i c.loop-i-test.true place (ap (λ xs. slice_index xs c.loop-i.i) c.places.ensures) c.args.words.now
    (place - c.start-start.result) c.requires.words (ap (λ z. place - z) (start_is c))

pub offset_bounds-places-i : goal.offset_bounds-places-i
offset_bounds-places-i c =
    let m : Moving = c.args.moving.now in
    omega (arith, index_small m.heap m.plan c.geometry.ensures.made c.geometry.ensures.valid c.args.run.now c.requires.run c.loop-i.i c.loop-i.auto.i c.loop-i-test.true)

pub bounds-places-i : goal.bounds-places-i
bounds-places-i c =
    let m : Moving = c.args.moving.now in
    let lt = in_places m.heap m.plan c.geometry.ensures.made c.geometry.ensures.valid c.args.run.now c.requires.run c.loop-i.i c.loop-i.auto.i c.loop-i-test.true in
    omega (arith, lt, ap length c.places.ensures)

pub overflow_sub-place : goal.overflow_sub-place
overflow_sub-place c =
    let m : Moving = c.args.moving.now in
    let b = (goal.at.overflow_sub-place c).After-places in
    let le = not_below m.heap m.plan c.geometry.ensures.made c.geometry.ensures.valid c.args.run.now c.requires.run c.loop-i.i c.loop-i.auto.i c.loop-i-test.true (slice_index c.places.result.now c.loop-i.i) (ap (λ xs. slice_index xs c.loop-i.i) c.places.ensures) in
    omega (arith, start_is b, le)

pub add_object-requires-clause-slots : goal.add_object-requires-clause-slots
add_object-requires-clause-slots c = (slots (goal.at.add_object-requires-clause-slots c).After-places).within

pub add_object-requires-clause-small : goal.add_object-requires-clause-small
add_object-requires-clause-small c = (slots (goal.at.add_object-requires-clause-small c).After-places).below

pub add_object-requires-clause-inside : goal.add_object-requires-clause-inside
add_object-requires-clause-inside c =
    omega (arith, (slots (goal.at.add_object-requires-clause-inside c).After-places).inside, ap (λ (m : Moving). m.heap.geometry.n * m.heap.geometry.w) c.moving.view_is)

pub add_object-requires-clause-named : goal.add_object-requires-clause-named
add_object-requires-clause-named c k less =
    omega (arith, (slots (goal.at.add_object-requires-clause-named c).After-places).named k less, ap (λ (m : Moving). m.heap.geometry.n * m.heap.geometry.w) c.moving.view_is)

pub loop-i-init : goal.loop-i-init
loop-i-init c = λ b le e. e

pub loop-i-preserved : goal.loop-i-preserved
loop-i-preserved c = λ b le e.
    let m : Moving = c.args.moving.now in
    let before = copied_between m.heap m.plan.survivors b c.loop-i.i in
    let s = slots (goal.at.loop-i-preserved c).After-places in
    let low : b ≤ c.loop-i.i = omega (arith, le, c.loop-i.auto.i) in
    c.in_ok-add_object.ensures before (s.lower b low) (c.loop-i.invariant b le e ∙ ap (λ (m : Moving). cards_by_region m.heap before) (sym c.moving.view_is))
    ∙ (λ j. cards_by_region (c.moving.view_is j).heap (s.more b low j))

pub returns : goal.returns
returns c = λ b le e.
    let m : Moving = c.args.moving.now in
    let order = run_order m.heap m.plan c.geometry.ensures.made c.geometry.ensures.valid c.args.run.now c.requires.run in
    let end : c.loop-i.i ≡ c.args.run.now.to = omega (arith, c.loop-i-test.false, c.loop-i.auto.i-end order) in
    c.loop-i.invariant b le e ∙ ap (λ i. cards_by_region m.heap (copied_between m.heap m.plan.survivors b i)) end

pub loop-i-smaller : goal.loop-i-smaller
loop-i-smaller c = omega (arith, c.loop-i-test.true)
