use Rattle.std.proofs.Common.{◌≡◌, ◌⊎◌, ℕ, slice_index, sym, subst}
use Rattle.g1_words.specs.declared.fault.Fault.TheVariants.{Set, Memory}
use Rattle.g1_choose.specs.Named.{AreTakeable, IsFirstBad}
use Rattle.g1judge.specs.Judged.{IsRefused, JudgesLoss}
use Rattle.g1judge.proofs.Texts.{loss_judged, refusal_judged}
use Rattle.g1judge.proofs.judging.judge_set.Goals as goal

pub returns-in-Err-Set : goal.returns-in-Err-Set
returns-in-Err-Set c =
    let set = c.args.set.now in
    let h = c.heap.result.now in
    subst (λ r. IsRefused c.args.before.now.heap set r) (sym c.in-Err-Set.region-is)
    (subst (λ g. IsRefused g set c.in-Err-Set.region) c.heap.ensures.same
    (refusal_judged h set c.in-Err-Set.region
    (subst (λ e. (e ≡ Memory) ⊎ ((i : ℕ) × IsFirstBad h set i × (e ≡ Set (slice_index set i)))) c.in-Err-Set.field-0-is c.in-Err-Set.ensures.err)))

pub returns-in-Err : goal.returns-in-Err
returns-in-Err c = tt

pub returns : goal.returns
returns c =
    let set = c.args.set.now in
    let v = c.judge_loss.result in
    loss_judged c.args.before.now c.args.after.now set v
    (subst (λ h. AreTakeable h set) c.heap.ensures.same c.in-Ok.ensures.accepted)
    (subst (λ h. JudgesLoss set c.args.before.now.heap h v) c.heap-3.ensures.same
    (subst (λ h. JudgesLoss set h c.heap-3.result.now v) c.heap-2.ensures.same c.judge_loss.ensures))
