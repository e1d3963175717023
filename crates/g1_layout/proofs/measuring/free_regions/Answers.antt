use Rattle.std.proofs.Common.{◌≡◌, ◌++◌, ◌∷◌, [], ℕ, true, false, filter, arith, ap, sym, ◌∙◌}
use Rattle.std.specs.List.{range_with_len}
use Rattle.g1_words.specs.Heap.{is_free, kind}
use Rattle.g1_words.proofs.Lists.{filter_range_no, filter_range_yes}
use Rattle.g1_layout.proofs.measuring.free_regions.Goals as goal
use Rattle.g1_layout.proofs.measuring.free_regions.Goals.{then-is_free+in_ok-push, else-is_free}

pub loop-r-preserved : goal.loop-r-preserved
loop-r-preserved c =
    let h = c.args.heap.now in
    let r = c.loop-r.r in
    let p = λ (r : ℕ). is_free (kind h r) in
    elim c.if-is_free.branch [
      | then-is_free+in_ok-push w ↦
          let e : is_free (kind h r) ≡ true = cc in
          ap (λ v. v.items) w.free-is ∙ w.in_ok-push.ensures.items ∙ ap (λ xs. xs ++ r ∷ []) c.loop-r.invariant ∙ sym (filter_range_yes p r e)
      | else-is_free w ↦
          let e : is_free (kind h r) ≡ false = cc in
          ap (λ v. v.items) w.free-is ∙ c.loop-r.invariant ∙ sym (filter_range_no p r e)
    ]

pub returns : goal.returns
returns c =
    let h = c.args.heap.now in
    let nn : c.regions-regions.result ≡ h.geometry.n = cc in
    let e : c.loop-r.r ≡ h.geometry.n = omega (arith, nn, c.loop-r-test.false, c.loop-r.auto.r-end) in
    c.loop-r.invariant ∙ ap (λ n. filter (λ r. is_free (kind h r)) (range_with_len 0 n)) e

pub loop-r-smaller : goal.loop-r-smaller
loop-r-smaller c = omega (arith, c.loop-r-test.true)
