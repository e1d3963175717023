use Rattle.std.proofs.Common.{inl, sym, ap, subst, arith}
use Rattle.std.proofs.lemmas.Result.{IfOk-weaker}
use Rattle.g1_command.specs.declared.refusal.Refusal.TheVariants as refusal
use Rattle.g1_pause.specs.declared.settings.Choice.{Choice}
use Rattle.g1_pause.specs.Settings.{Settings}
use Rattle.g1heap_cli.specs.Texts.{AsksFor}
use Rattle.g1heap_cli.proofs.Explains.{cost_refused}
use Rattle.g1heap_cli.proofs.explaining.settings_of.Goals as goal

pub returns-in-Ok-clause-cost : goal.returns-in-Ok-clause-cost
returns-in-Ok-clause-cost c = IfOk-weaker c.new.result _ _ (λ s e. ap (λ (t : Settings). t.cost) e) c.new.ensures.ok

pub returns-in-Ok-clause-choice : goal.returns-in-Ok-clause-choice
returns-in-Ok-clause-choice c =
    let e = c.args.request.now in
    IfOk-weaker c.new.result _ _ (λ s q. subst (λ (x : Choice). AsksFor e.budget e.set.items x) (sym (ap (λ (t : Settings). t.choice) q)) c.in-Ok.ensures.asked) c.new.ensures.ok

-- no settings have the cost
pub returns-in-Ok-clause-fault : goal.returns-in-Ok-clause-fault
returns-in-Ok-clause-fault c = cost_refused _ _ c.args.request.now.cost (omega arith, omega arith) (omega arith, omega arith) c.new.result c.new.ensures.err

pub returns-in-Err-clause-fault : goal.returns-in-Err-clause-fault
returns-in-Err-clause-fault c = inl (ap refusal.Fault c.in-Err.ensures.memory)
