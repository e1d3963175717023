use Rattle.std.proofs.Common.{◌++◌, ◌∷◌, [], map, sym, ◌∙◌, ap, arith}
use Rattle.g1_copy.specs.Unnamed.{is_unnamed}
use Rattle.g1_rem.proofs.EntryCards.{filtered_pass, filtered_push}
use Rattle.g1_copy.proofs.unnamed.unnamed_firsts.Goals as goal
use Rattle.g1_copy.proofs.unnamed.unnamed_firsts.Goals.{then-is_unnamed+in_ok-push, else-is_unnamed}

pub loop-region-preserved : goal.loop-region-preserved
loop-region-preserved c =
    let h = c.args.naming.now.heap in
    let sets = map (λ s. s.items) c.args.remembered.now in
    let r = c.loop-region.region in
    elim c.if-is_unnamed.branch [
      | then-is_unnamed+in_ok-push w ↦
          ap (λ v. v.items) w.firsts-is ∙ w.in_ok-push.ensures.items ∙ ap (λ l. l ++ c.loop-region.region ∷ []) c.loop-region.invariant
          ∙ sym (filtered_push (is_unnamed h c.args.naming.now.fates sets) r (sym c.is_unnamed.ensures ∙ w.if-is_unnamed.true))
      | else-is_unnamed w ↦
          ap (λ v. v.items) w.firsts-is ∙ c.loop-region.invariant
          ∙ sym (filtered_pass (is_unnamed h c.args.naming.now.fates sets) r (sym c.is_unnamed.ensures ∙ w.if-is_unnamed.false))
    ]

pub loop-region-smaller : goal.loop-region-smaller
loop-region-smaller c = omega (arith, c.loop-region-test.true)
