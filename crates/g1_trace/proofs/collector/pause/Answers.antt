use Rattle.std.proofs.Common.{◌≡◌, Ok, Err, IfOk, inl, inr, refl, subst}
use Rattle.g1_pause.specs.declared.settings.Choice.TheVariants.{Budget}
use Rattle.g1_pause.specs.Settings.{Settings}
use Rattle.g1_pause.specs.Answer.{IsEvacuated}
use Rattle.g1_trace.proofs.Accepted.{accepted}
use Rattle.g1_trace.proofs.collector.pause.Goals as goal

pub unwrap-settings-requires : goal.unwrap-settings-requires
unwrap-settings-requires g c = accepted c.workers-workers.ensures.range c.chunk-chunk.ensures.range c.args.collector.now.is_cost c.new.result c.new.ensures.err

pub returns-in-Ok-clause-done : goal.returns-in-Ok-clause-done
returns-in-Ok-clause-done g c =
    let asked : Settings = record { workers = c.workers-workers.result; chunk = c.chunk-chunk.result; cost = c.args.collector.now.cost; choice = Budget c.args.budget } in
    let made = subst (λ o. IfOk o (λ (s : Settings). s ≡ asked)) c.unwrap-settings.ensures c.new.ensures.ok in
    inl (subst (λ (s : Settings). IsEvacuated s.cost s.choice c.args.tracked (Ok c.in-Ok.tracked)) made c.in-Ok.ensures.done, refl)

pub returns-in-Memory-clause-same : goal.returns-in-Memory-clause-same
returns-in-Memory-clause-same g c = c.in-Err.ensures.same

pub returns-in_default-clause-done : goal.returns-in_default-clause-done
returns-in_default-clause-done g c =
    let asked : Settings = record { workers = c.workers-workers.result; chunk = c.chunk-chunk.result; cost = c.args.collector.now.cost; choice = Budget c.args.budget } in
    let made = subst (λ o. IfOk o (λ (s : Settings). s ≡ asked)) c.unwrap-settings.ensures c.new.ensures.ok in
    elim c.in-Err.ensures.refused [
      | inl memory ↦ absurd (c.in_default.not-Memory memory)
      | inr refused ↦ inr (
        c.in-Err.fault,
        subst (λ (s : Settings). IsEvacuated s.cost s.choice c.args.tracked (Err c.in-Err.fault)) made refused,
        refl,
        c.in-Err.ensures.same,
      )
    ]
