use Rattle.std.proofs.Common.{arith, take, ◌+◌, sym, subst}
use Rattle.g1_text.specs.Drafts.{numbers}
use Rattle.g1_text.proofs.SetLines.{IsSetLineOf, set_this, set_other, set_end}
use Rattle.g1_text.proofs.making.set_line.Goals as goal
use Rattle.g1_text.proofs.making.set_line.Goals.{then-told-region, else-told-region}

pub loop-told-preserved : goal.loop-told-preserved
loop-told-preserved c =
    let l = numbers c.args.draft.now in
    let all = c.deref-told-items.result.now in
    let i = c.loop-told.told-index in
    elim c.if-told-region.branch [
      | then-told-region w ↦ subst (λ n. IsSetLineOf l c.args.region (take (i + 1) all) n) (sym w.number-is) (set_this l c.args.region all i (0, 0) c.loop-told-test.true w.if-told-region.true)
      | else-told-region w ↦ subst (λ n. IsSetLineOf l c.args.region (take (i + 1) all) n) (sym w.number-is) (set_other l c.args.region all i (0, 0) c.loop-told-test.true c.loop-told.number w.if-told-region.false c.loop-told.invariant)
    ]

pub returns : goal.returns
returns c = set_end (numbers c.args.draft.now) c.args.region c.deref-told-items.result.now c.loop-told.told-index c.loop-told.number (omega (arith, c.loop-told-test.false)) c.deref-told-items.ensures.value c.loop-told.invariant
