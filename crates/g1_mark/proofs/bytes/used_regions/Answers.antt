use Rattle.std.proofs.Common.{ℕ, Bool, true, false, ◌≡◌, ◌∙◌, ap, sym, not, append-nil}
use Rattle.g1_words.specs.Heap.{kind, is_free}
use Rattle.g1_mark.proofs.Used.{used_more}
use Rattle.g1_mark.proofs.bytes.used_regions.Goals.{then-is_used+in_ok-push, else-is_used}
use Rattle.g1_mark.proofs.bytes.used_regions.Goals as goal

pub loop-region-preserved : goal.loop-region-preserved
loop-region-preserved c =
    let test : ℕ → Bool = λ r. not (is_free (kind c.args.heap.now r)) in
    let r : ℕ = c.loop-region.region in
    let told : test r ≡ c.is_used.result = sym (c.is_used.ensures.value ∙ ap (λ q. not (is_free q.kind)) c.region.ensures) in
    elim c.if-is_used.branch [
      | then-is_used+in_ok-push w ↦ used_more test r c.loop-region.used.items c.if-is_used.used.items true c.loop-region.invariant (told
          ∙ w.if-is_used.true) (ap (λ v. v.items) w.used-is ∙ w.in_ok-push.ensures.items)
      | else-is_used w ↦ used_more test r c.loop-region.used.items c.if-is_used.used.items false c.loop-region.invariant (told ∙ w.if-is_used.false)
          (ap (λ v. v.items) w.used-is ∙ sym (append-nil c.loop-region.used.items))
    ]
