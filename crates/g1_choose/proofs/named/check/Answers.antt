use Rattle.std.proofs.Common.{ℕ, ◌+◌, ◌<◌, length, take, subst, inl, inr, refl, sym, ap, arith, ◌∙◌, true, false, IsTrue}
use Rattle.std.specs.Prelude.{slice_index, slice_index_or}
use Rattle.std.proofs.lemmas.Bool.{cases_Bool}
use Rattle.std.proofs.lemmas.List.{length-set}
use Rattle.g1_choose.specs.Named.{IsBadAt}
use Rattle.g1_words.specs.Heap.{pinned}
use Rattle.g1_choose.proofs.Naming.{AreMarked, marked_more, good_more}
use Rattle.g1_choose.proofs.named.check.Goals as goal
use Rattle.g1_choose.proofs.named.check.Goals.{then-place-len-via-then-place-len, then-place-len-via-else-place-len+then-is_set, then-place-len-via-else-place-len+else-is_set+then-not-may_be_taken}

pub returns-then-place-len-clause-err : goal.returns-then-place-len-clause-err
returns-then-place-len-clause-err c =
    let h = c.args.heap.now in
    let list = c.args.list.now in
    let i : ℕ = c.loop-region.region-index in
    let count = c.loop-region.invariant.count in
    let bad : IsBadAt h list i =
    elim c.then-place-len.branch [
      | then-place-len-via-then-place-len w ↦ inl (omega (arith, w.if-place-len.true, c.len.ensures, count))
      | then-place-len-via-else-place-len+then-is_set w ↦
          let r : ℕ = slice_index list i in
          let marked : IsTrue (slice_index_or c.loop-region.named r false) = sym w.is_set.ensures ∙ w.if-is_set.true in
          inr (inr (inr ((c.loop-region.invariant.marks r (omega (arith, w.if-place-len.false, c.len.ensures, count))).0 marked)))
      | then-place-len-via-else-place-len+else-is_set+then-not-may_be_taken w ↦
          let refused = w.if-not-may_be_taken.true in
          elim (cases_Bool (pinned h (slice_index list i))) [
            | inl pin ↦ inr (inr (inl pin))
            | inr free ↦ inr (inl (λ e. let t = w.may_be_taken.ensures.1 (ap (λ q. q.kind) w.region.ensures ∙ e, ap (λ q. q.pinned) w.region.ensures ∙ free) in cc))
          ]
    ] in
    inr (i, record { within = c.loop-region-test.true; bad = bad; before = c.loop-region.invariant.good }, refl)

pub loop-region-preserved : goal.loop-region-preserved
loop-region-preserved c =
    let h = c.args.heap.now in
    let list = c.args.list.now in
    let i : ℕ = c.loop-region.region-index in
    let r : ℕ = slice_index list i in
    let invariant = c.loop-region.invariant in
    let taken = c.may_be_taken.ensures.0 c.if-not-may_be_taken.false in
    let in_heap : slice_index list i < h.geometry.n = omega (arith, c.if-place-len.false, c.len.ensures, invariant.count) in
    record {
      count = ap length c.set.ensures ∙ length-set c.loop-region.named (slice_index list i) true ∙ invariant.count;
      marks = subst (λ l. AreMarked h.geometry.n l (take (i + 1) list)) (sym c.set.ensures)
          (marked_more h.geometry.n i c.loop-region.named list invariant.count c.loop-region-test.true in_heap invariant.marks);
      good = good_more h list i invariant.good in_heap (sym (ap (λ q. q.kind) c.region.ensures) ∙ taken.0) (sym (ap (λ q. q.pinned) c.region.ensures) ∙ taken.1)
          (λ again. let marked = (invariant.marks r in_heap).1 again in let unmarked = sym c.is_set.ensures ∙ c.if-is_set.false in cc);
    }

pub loop-region-smaller : goal.loop-region-smaller
loop-region-smaller c = omega (arith, c.loop-region-test.true)
