use Rattle.std.proofs.Common.{◌≡◌, ◌+◌, inl, inr, sym, ◌∙◌, ap, arith}
use Rattle.std.proofs.lemmas.Bool.{cases_lt}
use Rattle.g1_words.specs.Heap.{Heap, kind}
use Rattle.g1_words.specs.declared.region.Kind.TheVariants.{Free}
use Rattle.g1_words.proofs.NextFit.{free_by_test}
use Rattle.g1_words.proofs.Shapes.{built}
use Rattle.g1_trace.specs.Mutator.{is_free_run}
use Rattle.g1_trace.proofs.Finding.{find_first, find_none, run_broken, run_past, run_there, not_free, free_below}
use Rattle.g1_trace.proofs.allocating.lowest_run.Goals as goal
use Rattle.g1_trace.proofs.allocating.lowest_run.Goals.{then-not-is_free, else-not-is_free+else-from-count}

pub returns-then-from-count : goal.returns-then-from-count
returns-then-from-count c =
    let h : Heap = c.args.heap.now in
    let n : c.regions-r-end.result ≡ h.geometry.n = c.regions-r-end.ensures.value ∙ ap (λ g. g.n) c.geometry.ensures.same in
    let inv = c.loop-r.invariant in
    let here : kind h c.loop-r.r ≡ Free = free_by_test (kind h c.loop-r.r) (sym c.is_free.ensures ∙ c.if-not-is_free.false) in
    let last : c.loop-r.first + c.args.count ≡ c.loop-r.r + 1 = omega (arith, inv.below, c.from.ensures, c.if-from-count.true) in
    sym (find_first (is_free_run h c.args.count) 0 h.geometry.n c.loop-r.first (omega arith) (omega (arith, n, inv.below, c.loop-r-test.true))
    (run_there h (built h c.geometry.ensures.valid) c.args.count c.loop-r.first
    (omega (arith, last, n, c.loop-r-test.true)) (λ q low high. free_below h c.loop-r.first c.loop-r.r inv.free here q low (omega (arith, last, high))))
    (λ q _ lt. inv.none q lt))

pub loop-r-preserved : goal.loop-r-preserved
loop-r-preserved c =
    let h : Heap = c.args.heap.now in
    let inv = c.loop-r.invariant in
    elim c.if-not-is_free.branch [
      | then-not-is_free w ↦ record {
        below = omega (arith, w.first-is);
        few = omega (arith, w.first-is, c.requires);
        free = λ q low high. absurd (omega (arith, low, high, w.first-is));
        none = λ q lt. elim (cases_lt q c.loop-r.first) [
          | inl old ↦ inv.none q old
          | inr ge ↦ run_broken h (built h c.geometry.ensures.valid) c.args.count q c.loop-r.r (omega (arith, lt, w.first-is))
              (omega (arith, ge, inv.few)) (not_free (kind h c.loop-r.r) (sym c.is_free.ensures ∙ w.if-not-is_free.true))
        ];
      }
      | else-not-is_free+else-from-count w ↦ record {
        below = omega (arith, w.first-is, inv.below);
        few = omega (arith, w.first-is, inv.below, inv.few, w.from.ensures, w.if-from-count.false);
        free = λ q low high. free_below h c.loop-r.first c.loop-r.r inv.free (free_by_test (kind h c.loop-r.r) (sym c.is_free.ensures
            ∙ w.if-not-is_free.false)) q (omega (arith, low, w.first-is)) high;
        none = λ q lt. inv.none q (omega (arith, lt, w.first-is));
      }
    ]

pub returns : goal.returns
returns c =
    let h : Heap = c.args.heap.now in
    let n : c.regions-r-end.result ≡ h.geometry.n = c.regions-r-end.ensures.value ∙ ap (λ g. g.n) c.geometry.ensures.same in
    let inv = c.loop-r.invariant in
    sym (find_none (is_free_run h c.args.count) 0 h.geometry.n (λ q _ lt. elim (cases_lt q c.loop-r.first) [
      | inl old ↦ inv.none q old
      | inr ge ↦ run_past h (built h c.geometry.ensures.valid) c.args.count q (omega (arith, ge, inv.few, n, c.loop-r-test.false))
    ]))

pub loop-r-smaller : goal.loop-r-smaller
loop-r-smaller c = omega (arith, c.loop-r-test.true)
