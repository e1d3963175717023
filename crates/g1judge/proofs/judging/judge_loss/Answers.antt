use Rattle.std.proofs.Common.{IfOk, IfErr, false, subst}
use Rattle.g1_kept.specs.Keeps.{Keeps}
use Rattle.g1_kept.specs.Lost.{IsLoss}
use Rattle.g1_kept.specs.Order.{IsEarliestLoss}
use Rattle.g1judge.proofs.judging.judge_loss.Goals as goal

pub returns-in-Ok-Ok : goal.returns-in-Ok-Ok
returns-in-Ok-Ok c = subst (λ r. IfOk r (λ _. Keeps false c.args.set.now c.args.before.now c.args.after.now)) c.in-Ok-Ok.field-0-is c.in-Ok-Ok.ensures.keeps

pub returns-in-Ok-Err : goal.returns-in-Ok-Err
returns-in-Ok-Err c =
    let set = c.args.set.now in
    let g = c.args.before.now in
    let h = c.args.after.now in
    record {
      is = subst (λ r. IfErr r (λ l. IsLoss false set g h l)) c.in-Ok-Err.field-0-is c.in-Ok-Err.ensures.lost;
      earliest = subst (λ r. IfErr r (λ l. IsEarliestLoss false set g h l)) c.in-Ok-Err.field-0-is c.in-Ok-Err.ensures.earliest;
      never = subst (λ r. IfErr r (λ _. Keeps false set g h → ⊥)) c.in-Ok-Err.field-0-is c.in-Ok-Err.ensures.never;
    }
