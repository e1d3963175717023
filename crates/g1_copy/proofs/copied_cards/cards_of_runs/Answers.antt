use Rattle.std.proofs.Common.{Contains, ◌≡◌, ◌≤◌, ◌<◌, ◌+◌, ◌-◌, ◌*◌, ◌∙◌, [], ℕ, length, slice_index_or, map, replicate, arith, ap, subst, sym}
use Rattle.std.specs.List.{slice_range}
use Rattle.std.proofs.lemmas.List.{get_or_default, length-map, with_items_is}
use Rattle.std.proofs.lemmas.List.FromFn.{length-map-range_with_len}
use Rattle.g1_words.specs.Geometry.{Geometry, most_words}
use Rattle.g1_words.specs.Layout.{need}
use Rattle.g1_layout.specs.Plan.{laid_before, run_at}
use Rattle.g1_layout.specs.declared.plan.Run.{Run}
use Rattle.g1_copy.specs.Gathered.{placed_words, to_space_words}
use Rattle.g1_copy.specs.Links.{cards_by_region, copied_between}
use Rattle.g1_copy.specs.Plans.{Moving}
use Rattle.g1_copy.proofs.CopiedWords.{between_none, region_ends, region_words}
use Rattle.g1_copy.proofs.Plans.{run_is, runs_count}
use Rattle.g1_copy.proofs.LinkingCards.{linked_none}
use Rattle.g1_copy.proofs.LinkingParts.{laid_rise}
use Rattle.g1_copy.proofs.copied_cards.cards_of_runs.Goals as goal
use Rattle.g1_copy.proofs.copied_cards.cards_of_runs.Goals.{After-words_of-first, In-loop-number}

-- what a read past the runs would give
abbrev none_read : Run
none_read = record { region = 0; from = 0; to = 0; end = 0 }

-- there is a region for the run
below : (c : In-loop-number) → c.loop-number.number < need c.args.copied.now.heap c.args.copied.now.plan.survivors
below c = omega (arith, c.loop-number-test.true, c.requires.there, runs_count c.args.copied.now.heap c.args.copied.now.plan c.runs-runs.ensures.made)

-- and it ends within to-space
ends : (c : In-loop-number) → (c.loop-number.number * c.args.copied.now.heap.geometry.w + c.args.copied.now.heap.geometry.w ≤ length (to_space_words c.args.copied.now.heap c.args.copied.now.plan.survivors))
    × (c.loop-number.number * c.args.copied.now.heap.geometry.w + c.args.copied.now.heap.geometry.w ≤ most_words)
ends c =
    let p = c.args.copied.now.plan in
    let made = c.runs-runs.ensures.made in
    region_ends c.args.copied.now.heap p.set p.survivors c.geometry-geometry.ensures.valid made.placeable made.room c.loop-number.number (below c)

width : (c : In-loop-number) → c.region_words-region_words.result ≡ c.args.copied.now.heap.geometry.w
width c = c.region_words-region_words.ensures.value ∙ ap (λ (g : Geometry). g.w) c.geometry-geometry.ensures.same

first : (c : After-words_of-first) → c.words_of-first.result ≡ c.loop-number.number * c.args.copied.now.heap.geometry.w
first c = c.words_of-first.ensures.value ∙ ap (λ (g : Geometry). c.loop-number.number * g.w) c.geometry-geometry.ensures.same

-- the run
run : (c : In-loop-number) → slice_index_or c.runs-runs.result.now c.loop-number.number none_read ≡ run_at c.args.copied.now.heap c.args.copied.now.plan.survivors c.loop-number.number
run c =
    ap (λ us. slice_index_or us c.loop-number.number none_read) c.runs-runs.ensures.same
    ∙ run_is c.args.copied.now.heap c.args.copied.now.plan c.runs-runs.ensures.made c.loop-number.number none_read (below c)

pub words_of-first-requires : goal.words_of-first-requires
words_of-first-requires c =
    omega (arith, ap (λ (g : Geometry). c.loop-number.number * g.w) c.geometry-geometry.ensures.same, (ends (goal.at.words_of-first-requires c).In-loop-number).1)

pub overflow_add-words : goal.overflow_add-words
overflow_add-words c =
    let at = goal.at.overflow_add-words c in
    omega (arith, first at.After-words_of-first, width at.In-loop-number, (ends at.In-loop-number).1)

pub offset_bounds-gathered-first : goal.offset_bounds-gathered-first
offset_bounds-gathered-first c =
    let at = goal.at.offset_bounds-gathered-first c in
    omega (arith, first at.After-words_of-first, (ends at.In-loop-number).1)

pub slice_bounds-words-end : goal.slice_bounds-words-end
slice_bounds-words-end c =
    let at = goal.at.slice_bounds-words-end c in
    let gathered = c.copied.invariant ∙ ap (λ (m : Moving). to_space_words m.heap m.plan.survivors) c.copied.view_is in
    let there : c.words_of-first.result + c.region_words-region_words.result ≤ length c.copied.inside.gathered.now =
    omega (arith, first at.After-words_of-first, width at.In-loop-number, (ends at.In-loop-number).0, ap length gathered) in
    there

pub add_run-requires-clause-run : goal.add_run-requires-clause-run
add_run-requires-clause-run c =
    let t = c.loop-number.number in
    let xs = c.runs-runs.result.now in
    let u : Run = slice_index_or c.runs-runs.result.now c.loop-number.number none_read in
    let lt : c.loop-number.number < length c.runs-runs.result.now = omega (arith, c.loop-number-test.true, c.requires.there, ap length c.runs-runs.ensures.same) in
    subst (λ us. Contains us u) (c.runs-runs.ensures.same ∙ ap (λ (m : Moving). m.plan.runs) (sym c.copied.view_is)) (t, lt, get_or_default xs t u none_read lt)

pub add_run-requires-clause-words : goal.add_run-requires-clause-words
add_run-requires-clause-words c =
    let h = c.args.copied.now.heap in
    let p = c.args.copied.now.plan in
    let at = goal.at.add_run-requires-clause-words c in
    let b = at.In-loop-number in
    let made = c.runs-runs.ensures.made in
    let gathered = c.copied.invariant ∙ ap (λ (m : Moving). to_space_words m.heap m.plan.survivors) c.copied.view_is in
    (λ j. slice_range (gathered j) (first at.After-words_of-first j) (first at.After-words_of-first j + width b j))
    ∙ region_words h p.set p.survivors c.geometry-geometry.ensures.valid made.placeable made.room c.loop-number.number (below b)
    ∙ (λ j. let m : Moving = sym c.copied.view_is j in placed_words m.heap m.plan.survivors (sym (run b) j).region)

pub loop-number-init : goal.loop-number-init
loop-number-init c =
    let h = c.args.copied.now.heap in
    let l = c.args.copied.now.plan.survivors in
    let count : c.regions.result ≡ c.args.copied.now.heap.geometry.n = c.regions.ensures.value ∙ ap (λ (g : Geometry). g.n) c.geometry-geometry.ensures.same in
    c.in_ok-lists.ensures ∙ ap (λ n. replicate n []) count ∙ linked_none h ∙ ap (cards_by_region h) (sym (between_none h l (laid_before h l c.args.from)))

pub add_run-requires-clause-one_each : goal.add_run-requires-clause-one_each
add_run-requires-clause-one_each c =
    sym (length-map c.deref_mut.result.now (λ s. s.items)) ∙ ap length (ap (map (λ s. s.items)) c.deref_mut.ensures.value ∙ c.loop-number.invariant)
    ∙ length-map-range_with_len _ 0 c.args.copied.now.heap.geometry.n ∙ ap (λ (m : Moving). m.heap.geometry.n) (sym c.copied.view_is)

pub loop-number-preserved : goal.loop-number-preserved
loop-number-preserved c =
    let h = c.args.copied.now.heap in
    let p = c.args.copied.now.plan in
    let made = c.runs-runs.ensures.made in
    let t = c.loop-number.number in
    let from = c.args.from in
    let b = (goal.at.loop-number-preserved c).In-loop-number in
    let start : ℕ = laid_before h p.survivors from in
    let whole : c.args.from + (c.loop-number.number - c.args.from) ≡ c.loop-number.number = omega (arith, c.loop-number.auto.number) in
    let rise : laid_before h p.survivors c.args.from ≤ laid_before h p.survivors c.loop-number.number =
    subst (λ n. laid_before h p.survivors from ≤ laid_before h p.survivors n) whole
    (laid_rise h p.set p.survivors c.geometry-geometry.ensures.valid made.placeable made.room from (t - from) (omega (arith, whole, below b))) in
    let le = subst (λ (u : Run). laid_before h p.survivors from ≤ u.from) (sym (run b)) rise in
    ap (map (λ s. s.items)) (with_items_is c.loop-number.lists c.add_run.new.lists (c.add_run.auto.lists ∙ c.deref_mut.ensures.len))
    ∙ c.in_ok-add_run.ensures start le
    (ap (map (λ s. s.items)) c.deref_mut.ensures.value ∙ c.loop-number.invariant
    ∙ (λ j. let m : Moving = sym c.copied.view_is j in cards_by_region m.heap (copied_between m.heap m.plan.survivors start (sym (run b) j).from)))
    ∙ (λ j. let m : Moving = c.copied.view_is j in cards_by_region m.heap (copied_between m.heap m.plan.survivors start (run b j).to))

pub returns : goal.returns
returns c =
    let h = c.args.copied.now.heap in
    let l = c.args.copied.now.plan.survivors in
    let end : c.loop-number.number ≡ c.args.to = omega (arith, c.loop-number-test.false, c.loop-number.auto.number-end c.requires.order) in
    c.loop-number.invariant ∙ ap (λ n. cards_by_region h (copied_between h l (laid_before h l c.args.from) (laid_before h l n))) end

pub loop-number-smaller : goal.loop-number-smaller
loop-number-smaller c = omega (arith, c.loop-number-test.true)
