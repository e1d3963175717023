use Rattle.std.proofs.Common.{◌<◌, ◌+◌, ℕ, map, Vec, Global, length, get_or, arith, sym, ap, subst, ◌∙◌}
use Rattle.std.proofs.lemmas.List.{get_or_default}
use Rattle.g1_words.specs.Heap.{free_region}
use Rattle.g1_text.specs.Covered.{HasWords}
use Rattle.g1_text.proofs.Remembering.{each_end, has_words, unused_more, unused_small}
use Rattle.g1_text.proofs.covering.cover_regions.Goals as goal

pub loop-number-preserved : goal.loop-number-preserved
loop-number-preserved c = λ i same rs is l.
    let n = c.loop-number.number in
    let valid = l.image.heap in
    let kept = c.loop-number.invariant i same rs is l in
    let count = ap length rs in
    let below : c.loop-number.number < length i.heap.regions = omega (arith, c.loop-number-test.true, count) in
    let lt : c.loop-number.number < i.heap.geometry.n = omega (arith, below, valid.region_count) in
    let read = get_or_default c.args.regions.now n _ free_region c.loop-number-test.true ∙ ap (λ l. get_or l n free_region) rs in
    let stand = subst (λ u. HasWords i.heap n c.args.words.now u) (sym kept.0) (has_words i.heap valid n lt c.args.words.now is) in
    let done = c.in_ok-cover_region.ensures i same lt read stand kept.1 in
    let more = unused_more i.heap.geometry.w i.heap.regions n below in
    let small = unused_small i.heap (n + 1) valid in
    let top = ap (λ q. q.top) read in
    let width = ap (λ g. g.w) same in
    (omega (arith, c.saturating_add-unused.ensures, c.unused_words.ensures, top, width, more, small, kept.0), done)

pub returns : goal.returns
returns c = λ i same rs is l.
    let kept = c.loop-number.invariant i same rs is l in
    let count = ap length rs in
    each_end i c.loop-number.number (map (λ (v : Vec ℕ Global). v.items) c.loop-number.remembered.items) (omega (arith, c.loop-number-test.false, count, l.image.heap.region_count)) kept.1
