use Rattle.std.proofs.Common.{◌≡◌, ◌+◌, ℕ, true, false, length, filter, arith, ap, ◌∙◌}
use Rattle.std.specs.List.{range_with_len}
use Rattle.std.proofs.lemmas.List.{length_push}
use Rattle.g1_words.specs.Heap.{is_free, kind}
use Rattle.g1_words.proofs.Lists.{filter_range_no, filter_range_yes}
use Rattle.g1_layout.proofs.measuring.free_count.Goals as goal
use Rattle.g1_layout.proofs.measuring.free_count.Goals.{then-is_free, else-is_free}

pub loop-r-preserved : goal.loop-r-preserved
loop-r-preserved c =
    let h = c.args.heap.now in
    let r = c.loop-r.r in
    let p = λ (r : ℕ). is_free (kind h r) in
    elim c.if-is_free.branch [
      | then-is_free w ↦
          let e : is_free (kind h r) ≡ true = cc in
          let n : length (filter p (range_with_len 0 (r + 1))) ≡ length (filter p (range_with_len 0 r)) + 1 = ap length (filter_range_yes p r e) ∙ length_push (filter p (range_with_len 0 r)) r in
          record { counted = omega (arith, n, w.count-is, c.loop-r.invariant.counted); few = omega (arith, w.count-is, c.loop-r.invariant.few) }
      | else-is_free w ↦
          let e : is_free (kind h r) ≡ false = cc in
          let n : length (filter p (range_with_len 0 (r + 1))) ≡ length (filter p (range_with_len 0 r)) = ap length (filter_range_no p r e) in
          record { counted = omega (arith, n, w.count-is, c.loop-r.invariant.counted); few = omega (arith, w.count-is, c.loop-r.invariant.few) }
    ]

pub returns-clause-count : goal.returns-clause-count
returns-clause-count c =
    let h = c.args.heap.now in
    let nn : c.regions-regions.result ≡ h.geometry.n = cc in
    let e : c.loop-r.r ≡ h.geometry.n = omega (arith, nn, c.loop-r-test.false, c.loop-r.auto.r-end) in
    c.loop-r.invariant.counted ∙ ap (λ n. length (filter (λ r. is_free (kind h r)) (range_with_len 0 n))) e

pub loop-r-smaller : goal.loop-r-smaller
loop-r-smaller c = omega (arith, c.loop-r-test.true)
