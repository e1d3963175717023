use Rattle.std.proofs.Common.{◌≡◌, refl, true, false, ℕ, ◌<◌, ◌≤◌, ◌+◌, ◌*◌, length, arith, ap, ◌∙◌}
use Rattle.std.proofs.Math.Nat.{mul-le-mul_right}
use Rattle.g1_words.specs.Heap.{region, start, end}
use Rattle.g1_image.proofs.Tests.{never}
use Rattle.g1_image.proofs.Rows.{marked_as, next_start}
use Rattle.g1_image.proofs.shape.mark_ordinary.Goals as goal

pub returns-clause-marked : goal.returns-clause-marked
returns-clause-marked c = λ t.
    let h = c.args.draft.now in
    let r = c.args.r in
    let from : c.start-start.result ≡ start h r = c.start-start.ensures.value ∙ ap (λ g. r * g.w) c.geometry-geometry.ensures.same in
    let top : c.from-top.result ≡ (region h r).top = c.from-top.ensures ∙ ap (λ q. q.top) c.region.ensures in
    let to : c.start-start.result + c.from-top.result ≡ end h r = λ i. from i + top i in
    marked_as c.words.result.now.items h.words c.args.base c.start-start.result (start h r) (c.start-start.result + c.from-top.result) (end h r) c.args.marks.now c.mark_row.new.marks
    c.words.ensures.same from to (c.mark_row.ensures.marked t)

pub returns-then-top-eq0-clause-shaped : goal.returns-then-top-eq0-clause-shaped
returns-then-top-eq0-clause-shaped c =
    let top : c.from-top.result ≡ (region c.args.draft.now c.args.r).top = c.from-top.ensures ∙ ap (λ q. q.top) c.region.ensures in
    never (λ s. omega (arith, s.0, top, c.if-top-eq0.true))

pub returns-then-top-region_words-clause-shaped : goal.returns-then-top-region_words-clause-shaped
returns-then-top-region_words-clause-shaped c =
    let top : c.from-top.result ≡ (region c.args.draft.now c.args.r).top = c.from-top.ensures ∙ ap (λ q. q.top) c.region.ensures in
    let w : c.region_words.result ≡ c.args.draft.now.geometry.w = c.region_words.ensures.value ∙ ap (λ g. g.w) c.geometry-geometry.ensures.same in
    never (λ s. omega (arith, s.1, top, w, c.if-top-region_words.true))

-- a row that begins where a region does and is no longer ends in the heap
row_end : (n w r from top wide : ℕ) → r < n → from ≡ r * w → wide ≡ w → top ≤ wide → from + top ≤ n * w
row_end n w r from top wide lt is same le = let more : r + 1 ≤ n = omega (arith, lt) in omega (arith, is, same, le, mul-le-mul_right w more)

pub mark_row-requires-clause-in_words : goal.mark_row-requires-clause-in_words
mark_row-requires-clause-in_words c =
    let g = c.args.draft.now.geometry in
    let same = c.geometry-geometry.ensures.same in
    let ends = row_end g.n g.w c.args.r c.start-start.result c.from-top.result c.region_words.result c.requires.there (c.start-start.ensures.value ∙ ap (λ q. c.args.r * q.w) same)
    (c.region_words.ensures.value ∙ ap (λ q. q.w) same) c.if-top-region_words.false in
    omega (arith, ends, c.words.ensures.draft.word_count, ap length c.words.ensures.same)

pub mark_row-requires-clause-sizes : goal.mark_row-requires-clause-sizes
mark_row-requires-clause-sizes c =
    let g = c.args.draft.now.geometry in
    let same = c.geometry-geometry.ensures.same in
    let ends = row_end g.n g.w c.args.r c.start-start.result c.from-top.result c.region_words.result c.requires.there (c.start-start.ensures.value ∙ ap (λ q. c.args.r * q.w) same)
    (c.region_words.ensures.value ∙ ap (λ q. q.w) same) c.if-top-region_words.false in
    omega (arith, ends, c.words.ensures.draft.limits.words_most)

pub region-requires : goal.region-requires
region-requires c = c.requires.there

pub mark_row-requires-clause-order : goal.mark_row-requires-clause-order
mark_row-requires-clause-order c = omega arith

pub mark_row-requires-clause-below : goal.mark_row-requires-clause-below
mark_row-requires-clause-below c =
    let from : c.start-start.result ≡ start c.args.draft.now c.args.r = c.start-start.ensures.value ∙ ap (λ g. c.args.r * g.w) c.geometry-geometry.ensures.same in
    omega (arith, from, c.requires.below)

pub mark_row-requires-clause-above : goal.mark_row-requires-clause-above
mark_row-requires-clause-above c =
    let h = c.args.draft.now in
    let r = c.args.r in
    let from : c.start-start.result ≡ start h r = c.start-start.ensures.value ∙ ap (λ g. r * g.w) c.geometry-geometry.ensures.same in
    let w : c.region_words.result ≡ h.geometry.w = c.region_words.ensures.value ∙ ap (λ g. g.w) c.geometry-geometry.ensures.same in
    omega (arith, from, w, next_start h r (r + 1) (omega arith), c.if-top-region_words.false, c.requires.above)

pub returns-then-top-eq0-clause-marked : goal.returns-then-top-eq0-clause-marked
returns-then-top-eq0-clause-marked c t = let e : false ≡ true = t in cc

pub returns-then-top-eq0-clause-size : goal.returns-then-top-eq0-clause-size
returns-then-top-eq0-clause-size c = refl

pub returns-then-top-region_words-clause-marked : goal.returns-then-top-region_words-clause-marked
returns-then-top-region_words-clause-marked c t = let e : false ≡ true = t in cc

pub returns-then-top-region_words-clause-size : goal.returns-then-top-region_words-clause-size
returns-then-top-region_words-clause-size c = refl

pub returns-clause-size : goal.returns-clause-size
returns-clause-size c = c.mark_row.ensures.size
