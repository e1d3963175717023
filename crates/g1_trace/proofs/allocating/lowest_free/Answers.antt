use Rattle.std.proofs.Common.{◌≡◌, sym, ◌∙◌, arith, below_more, ap}
use Rattle.g1_words.specs.Heap.{Heap}
use Rattle.g1_trace.specs.Mutator.{is_free_region}
use Rattle.g1_trace.proofs.Finding.{find_first, find_none}
use Rattle.g1_trace.proofs.allocating.lowest_free.Goals as goal

pub returns-then-is_free : goal.returns-then-is_free
returns-then-is_free c =
    let h : Heap = c.args.heap.now in
    let n : c.regions-r-end.result ≡ h.geometry.n = c.regions-r-end.ensures.value ∙ ap (λ g. g.n) c.geometry.ensures.same in
    sym (find_first (is_free_region h) 0 h.geometry.n c.loop-r.r (omega arith) (omega (arith, n, c.loop-r-test.true)) (sym c.is_free.ensures ∙ c.if-is_free.true) (λ q _ lt. c.loop-r.invariant q lt))

pub loop-r-preserved : goal.loop-r-preserved
loop-r-preserved c = below_more _ _ c.loop-r.invariant (sym c.is_free.ensures ∙ c.if-is_free.false)

pub returns : goal.returns
returns c =
    let h : Heap = c.args.heap.now in
    let n : c.regions-r-end.result ≡ h.geometry.n = c.regions-r-end.ensures.value ∙ ap (λ g. g.n) c.geometry.ensures.same in
    sym (find_none (is_free_region h) 0 h.geometry.n (λ q _ lt. c.loop-r.invariant q (omega (arith, n, lt, c.loop-r-test.false))))

pub loop-r-smaller : goal.loop-r-smaller
loop-r-smaller c = omega (arith, c.loop-r-test.true)
