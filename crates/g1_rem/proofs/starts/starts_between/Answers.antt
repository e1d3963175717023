use Rattle.std.proofs.Common.{◌≡◌, ◌≤◌, ◌+◌, ◌*◌, ◌∙◌, ℕ, ap, arith, length, map, subst, sym}
use Rattle.std.proofs.Math.Nat.{mul-le-mul_right}
use Rattle.std.specs.Prelude.{None}
use Rattle.g1_words.specs.Geometry.{most_words}
use Rattle.g1_rem.specs.Marks.{IsMarkedTo}
use Rattle.g1_rem.specs.Starts.{address_below}
use Rattle.g1_rem.proofs.Marks.{begin_told, end_told}
use Rattle.g1_rem.proofs.starts.starts_between.Goals as goal

-- where a region begins, and the last one ends, that is no higher than the heap
low : (w n r x : ℕ) → x ≡ r * w → r ≤ n → n * w ≤ most_words → x ≤ most_words
low w n r x e le most = let m = mul-le-mul_right w le in omega (arith, e, m, most)

pub overflow_sub-end : goal.overflow_sub-end
overflow_sub-end c =
    let m = mul-le-mul_right c.geometry-geometry.result.w c.requires.order in
    omega (arith, m, c.start-begin.ensures.value, c.start-end.ensures.value)

pub mark_region-requires-clause-region : goal.mark_region-requires-clause-region
mark_region-requires-clause-region c = omega (arith, c.loop-region-test.true, c.requires.regions)

pub mark_region-requires-clause-until : goal.mark_region-requires-clause-until
mark_region-requires-clause-until c =
    let end = c.start-end.ensures.value ∙ ap (λ g. c.args.to * g.w) c.geometry-geometry.ensures.same in
    low c.args.heap.now.geometry.w c.args.heap.now.geometry.n c.args.to c.start-end.result end c.requires.regions c.geometry-geometry.ensures.valid.limits.words_most

pub mark_region-requires-clause-told : goal.mark_region-requires-clause-told
mark_region-requires-clause-told c = c.loop-region.invariant.0

pub mark_region-requires-clause-room : goal.mark_region-requires-clause-room
mark_region-requires-clause-room c = c.loop-region.invariant.1

pub loop-region-smaller : goal.loop-region-smaller
loop-region-smaller c = omega (arith, c.loop-region-test.true)

pub loop-region-preserved : goal.loop-region-preserved
loop-region-preserved c = (c.in_ok-mark_region.ensures.told, c.mark_region.ensures.room)

pub mark-requires-clause-card : goal.mark-requires-clause-card
mark-requires-clause-card c =
    let k = c.card_words.ensures.value in
    (omega (arith, k, c.card_words.ensures.limits.k_least), omega (arith, k, c.card_words.ensures.limits.k_most))

pub mark-requires-clause-address : goal.mark-requires-clause-address
mark-requires-clause-address c =
    let end = c.start-end.ensures.value ∙ ap (λ g. c.args.to * g.w) c.geometry-geometry.ensures.same in
    low c.args.heap.now.geometry.w c.args.heap.now.geometry.n c.args.to c.start-end.result end c.requires.regions c.geometry-geometry.ensures.valid.limits.words_most

pub mark-requires-clause-room : goal.mark-requires-clause-room
mark-requires-clause-room c =
    let k : c.card_words.result ≡ c.args.heap.now.geometry.k = c.card_words.ensures.value ∙ ap (λ g. g.k) c.geometry-geometry.ensures.same in
    subst (λ k. c.start-begin.result + length c.loop-region.firsts.items * k ≤ 2 * most_words) (sym k) c.loop-region.invariant.1

pub loop-region-init : goal.loop-region-init
loop-region-init c =
    let begin = c.start-begin.ensures.value ∙ ap (λ g. c.args.from * g.w) c.geometry-geometry.ensures.same in
    let end = c.start-end.ensures.value ∙ ap (λ g. c.args.to * g.w) c.geometry-geometry.ensures.same in
    begin_told c.args.heap.now c.geometry-geometry.ensures.valid c.run_begin-region.result c.args.from c.args.to c.start-begin.result
    c.start-end.result c.in_ok-firsts.firsts.items begin end c.run_begin-region.ensures.order c.requires.order c.requires.regions c.run_begin-region.ensures.kind c.in_ok-firsts.ensures.items

pub returns-clause-ok : goal.returns-clause-ok
returns-clause-ok c =
    let begin = c.start-begin.ensures.value ∙ ap (λ g. c.args.from * g.w) c.geometry-geometry.ensures.same in
    let end = c.start-end.ensures.value ∙ ap (λ g. c.args.to * g.w) c.geometry-geometry.ensures.same in
    let k : c.card_words.result ≡ c.args.heap.now.geometry.k = c.card_words.ensures.value ∙ ap (λ g. g.k) c.geometry-geometry.ensures.same in
    end_told c.args.heap.now c.geometry-geometry.ensures.valid c.args.from c.args.to c.loop-region.region c.start-begin.result c.start-end.result
    (map address_below c.loop-region.firsts.items) (map address_below c.mark.new.firsts.items) begin end c.requires.order
    (omega (arith, c.loop-region-test.false)) c.loop-region.invariant.0
    (subst (λ x. IsMarkedTo (map address_below c.loop-region.firsts.items) (map address_below c.mark.new.firsts.items) c.start-begin.result x c.start-end.result None) k c.in_ok-mark.ensures.marked)
