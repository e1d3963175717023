use Rattle.std.proofs.Common.{◌≡◌, ◌/◌, ◌∙◌, ◌&&◌, suc, not, arith, sym, ap, slice_index, eqb, eq-eqb}
use Rattle.std.proofs.lemmas.Bool.{ne_eqb}
use Rattle.g1_words.specs.Heap.{Heap}
use Rattle.g1_rem.specs.Ahead.{is_entry}
use Rattle.g1_rem.proofs.Leading.{entry_null, entry_named}
use Rattle.g1_rem.proofs.entries.Entering.is_entry.Goals as goal
use Rattle.g1_rem.proofs.entries.Entering.is_entry.Goals.{After-region_of}

-- the slot's reference leads into the region, and from another one
entry : (c : After-region_of) → is_entry c.args.self.now.image.now.heap c.args.self.now.region c.args.slot
    ≡ (eqb c.region_of.result c.from-region.result && not (eqb (c.args.slot / c.geometry-geometry.result.w) c.from-region.result))
entry c =
    let h = c.args.self.now.image.now.heap in
    let r = c.args.self.now.region in
    let a = c.in-Some.target in
    let p = c.args.slot in
    let named : slice_index c.words.result.now.items c.args.slot ≡ suc c.in-Some.target = omega (arith, c.in-Some.ensures, c.at.ensures) in
    let read = ap (λ l. slice_index l p) (c.words.ensures.same ∙ ap (λ (h : Heap). h.words) c.heap-heap.ensures.same) in
    let same = c.geometry-geometry.ensures.same ∙ ap (λ (h : Heap). h.geometry) c.heap-heap.ensures.same in
    entry_named h r p a (sym read ∙ named) ∙ ap (λ g. eqb (a / g.w) r && not (eqb (p / g.w) r)) (sym same)
    ∙ ap (λ x. eqb (a / c.geometry-geometry.result.w) x && not (eqb (p / c.geometry-geometry.result.w) x)) (sym c.from-region.ensures)
    ∙ ap (λ x. eqb x c.from-region.result && not (eqb (p / c.geometry-geometry.result.w) c.from-region.result)) (sym c.region_of.ensures)

pub returns-then-region_of-region-clause-same : goal.returns-then-region_of-region-clause-same
returns-then-region_of-region-clause-same c =
    let other = not (eqb (c.args.slot / c.geometry-geometry.result.w) c.from-region.result) in
    ap (λ x. not (eqb x c.from-region.result)) c.region_of-then-region_of-region.ensures
    ∙ sym (entry (goal.at.returns-then-region_of-region-clause-same c).After-region_of ∙ ap (λ b. b && other) (eq-eqb c.region_of.result c.from-region.result c.if-region_of-region.true))

pub returns-else-region_of-region-clause-same : goal.returns-else-region_of-region-clause-same
returns-else-region_of-region-clause-same c =
    let other = not (eqb (c.args.slot / c.geometry-geometry.result.w) c.from-region.result) in
    let none = ne_eqb c.region_of.result c.from-region.result c.if-region_of-region.false in
    none ∙ sym (entry (goal.at.returns-else-region_of-region-clause-same c).After-region_of ∙ ap (λ b. b && other) none)

pub returns-in-None-clause-same : goal.returns-in-None-clause-same
returns-in-None-clause-same c =
    let none : slice_index c.words.result.now.items c.args.slot ≡ 0 = omega (arith, c.in-None.ensures, c.at.ensures) in
    sym (entry_null c.args.self.now.image.now.heap c.args.self.now.region c.args.slot (sym (ap (λ l. slice_index l c.args.slot) (c.words.ensures.same ∙ ap (λ (h : Heap). h.words) c.heap-heap.ensures.same)) ∙ none))
