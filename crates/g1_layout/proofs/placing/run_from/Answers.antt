use Rattle.std.proofs.Common.{◌≡◌, ◌+◌, ◌-◌, ◌*◌, ◌/◌, ◌<◌, ℕ, length, get_or, refl, ap, sym, ◌∙◌, arith}
use Rattle.g1_layout.proofs.Counted.{one_each, size_read}
use Rattle.g1_layout.proofs.Running.{Running-end, Running-last, Running-step, count_places}
use Rattle.g1_layout.proofs.placing.run_from.Goals as goal
use Rattle.g1_layout.proofs.placing.run_from.Goals.{Left-loop-to, then-loop-to-test+else-region_of-from, else-loop-to-test}

pub bounds-places-to : goal.bounds-places-to
bounds-places-to c =
    let count = ap length c.requires.placed
    ∙ count_places c.args.batch.now.heap.now c.args.batch.now.survivors.now (omega (arith, c.geometry-geometry.ensures.valid.limits.w_least)) c.requires.batch.fits c.requires.batch.room in
    omega (arith, count, c.loop-to-test.true)

pub bounds-places-to-then-from-to : goal.bounds-places-to-then-from-to
bounds-places-to-then-from-to c =
    let last = Running-last c.args.batch.now.heap.now c.args.places.now c.args.region c.args.from c.loop-to.to c.loop-to.invariant c.if-from-to.true in
    omega (arith, last.0)

pub offset_bounds-places-to-then-from-to : goal.offset_bounds-places-to-then-from-to
offset_bounds-places-to-then-from-to c =
    let last = Running-last c.args.batch.now.heap.now c.args.places.now c.args.region c.args.from c.loop-to.to c.loop-to.invariant c.if-from-to.true in
    omega (arith, last.0, c.type_inv.places 0)

pub loop-to-preserved : goal.loop-to-preserved
loop-to-preserved c =
    let h = c.args.batch.now.heap.now in
    let ps = c.args.places.now in
    let count = ap length c.requires.placed
    ∙ count_places h c.args.batch.now.survivors.now (omega (arith, c.geometry-geometry.ensures.valid.limits.w_least)) c.requires.batch.fits c.requires.batch.room in
    let number = c.region_of.ensures ∙ ap (λ g. get_or ps c.loop-to.to 0 / g.w) c.geometry-geometry.ensures.same in
    Running-step h ps c.args.region c.args.from c.loop-to.to c.loop-to.invariant (omega (arith, count, c.loop-to-test.true)) (sym number ∙ c.if-region_of-from.true ∙ c.from.ensures)

pub bounds-sizes-to : goal.bounds-sizes-to
bounds-sizes-to c =
    let h = c.args.batch.now.heap.now in
    let l = c.args.batch.now.survivors.now in
    let each = one_each h l c.args.batch.now.sizes.now c.requires.batch.sizes in
    let count = ap length c.requires.placed ∙ count_places h l (omega (arith, c.geometry-geometry.ensures.valid.limits.w_least)) c.requires.batch.fits c.requires.batch.room in
    let last = Running-last h c.args.places.now c.args.region c.args.from c.loop-to.to c.loop-to.invariant c.if-from-to.true in
    omega (arith, each, count, last.0)

pub overflow_sub-end-then-from-to : goal.overflow_sub-end-then-from-to
overflow_sub-end-then-from-to c =
    let last = Running-last c.args.batch.now.heap.now c.args.places.now c.args.region c.args.from c.loop-to.to c.loop-to.invariant c.if-from-to.true in
    let start = c.start-start.ensures.value ∙ ap (λ g. c.args.region * g.w) c.geometry-geometry.ensures.same in
    omega (arith, start, last.1)

-- the loop ends where no survivor is left or the next one stands elsewhere
stops : (c : Left-loop-to) → c.loop-to.to < length c.args.places.now → get_or c.args.places.now c.loop-to.to 0 / c.args.batch.now.heap.now.geometry.w ≡ c.args.region → ⊥
stops c lt here = elim c.loop-to-test.branch [
  | then-loop-to-test+else-region_of-from w ↦
      w.if-region_of-from.false (w.region_of.ensures ∙ ap (λ g. get_or c.args.places.now c.loop-to.to 0 / g.w) c.geometry-geometry.ensures.same ∙ here ∙ sym w.from.ensures)
  | else-loop-to-test w ↦
      let count = ap length c.requires.placed
      ∙ count_places c.args.batch.now.heap.now c.args.batch.now.survivors.now (omega (arith, c.geometry-geometry.ensures.valid.limits.w_least)) c.requires.batch.fits c.requires.batch.room in
      absurd (omega (arith, lt, count, w.loop-to-test.false))
]

pub returns-then-from-to : goal.returns-then-from-to
returns-then-from-to c =
    let h = c.args.batch.now.heap.now in
    let start = c.start-start.ensures.value ∙ ap (λ g. c.args.region * g.w) c.geometry-geometry.ensures.same in
    let before : ℕ = get_or c.args.places.now (c.loop-to.to - 1) 0 in
    let last = Running-last h c.args.places.now c.args.region c.args.from c.loop-to.to c.loop-to.invariant c.if-from-to.true in
    let count = ap length c.requires.placed ∙ count_places h c.args.batch.now.survivors.now
    (omega (arith, c.geometry-geometry.ensures.valid.limits.w_least)) c.requires.batch.fits c.requires.batch.room in
    let read = c.from-then-from-to.ensures ∙ size_read h c.args.batch.now.survivors.now c.args.batch.now.sizes.now (c.loop-to.to - 1) c.requires.batch.sizes (omega (arith, count, last.0)) in
    Running-end h c.args.batch.now.survivors.now c.args.places.now c.args.region c.args.from c.loop-to.to (before + c.from-then-from-to.result - c.start-start.result)
    (omega (arith, c.geometry-geometry.ensures.valid.limits.w_least))
    c.requires.batch.fits c.requires.batch.room c.requires.placed c.loop-to.invariant
    (λ e. absurd (omega (arith, e, c.if-from-to.true)))
    (λ lt. λ t. before + read t - start t)
    (stops (goal.at.returns-then-from-to c).Left-loop-to)

pub returns-else-from-to : goal.returns-else-from-to
returns-else-from-to c =
    Running-end c.args.batch.now.heap.now c.args.batch.now.survivors.now c.args.places.now c.args.region c.args.from c.loop-to.to 0
    (omega (arith, c.geometry-geometry.ensures.valid.limits.w_least)) c.requires.batch.fits c.requires.batch.room c.requires.placed
    c.loop-to.invariant
    (λ e. refl)
    (λ lt. absurd (omega (arith, lt, c.if-from-to.false)))
    (stops (goal.at.returns-else-from-to c).Left-loop-to)

pub loop-to-smaller : goal.loop-to-smaller
loop-to-smaller c = omega (arith, c.loop-to-test.true)
