use Rattle.std.proofs.Common.{◌≡◌, sym, subst, ◌∙◌}
use Rattle.std.specs.Prelude.{IfSome}
use Rattle.std.proofs.lemmas.Result.{err_from_is_err_and}
use Rattle.g1pause_cli.proofs.Replayed.{no_settings, no_bytes, replay_ok, replay_err}
use Rattle.g1pause_cli.proofs.commands.run.Goals as goal

pub returns-in_err-settings-clause-fault : goal.returns-in_err-settings-clause-fault
returns-in_err-settings-clause-fault g c =
    let p = err_from_is_err_and c.from_residual.result c.from_residual.ensures.1 in
    rw (p.1, p.2) (no_settings c.args.replay.now (g.R.Read.remaining c.args.reader.now) c.in_err-settings.field-0.0 c.in_err-settings.ensures.refused)

pub returns-in_err-bytes-clause-fault : goal.returns-in_err-bytes-clause-fault
returns-in_err-bytes-clause-fault g c =
    let p = err_from_is_err_and c.from_residual-in_err-bytes.result c.from_residual-in_err-bytes.ensures.1 in
    rw (p.1, p.2) (no_bytes c.args.replay.now (g.R.Read.remaining c.args.reader.now) c.in_err-bytes.field-0.0 c.in_err-bytes.ensures.fault)

pub returns-clause-text : goal.returns-clause-text
returns-clause-text g c =
    let left = g.R.Read.remaining c.args.reader.now in
    let read = subst (λ b. IfSome left (λ xs. xs ≡ b)) (sym c.as_slice.ensures.value) c.in_ok-bytes.ensures.bytes in
    replay_ok c.args.replay.now left c.in_ok-settings.ensures.taken c.as_slice.result.now read c.cost-cost.result (c.cost-cost.ensures.value ∙ c.in_ok-settings.ensures.cost)
    c.run_text.result (λ v. v.items) c.run_text.ensures.told

pub returns-clause-fault : goal.returns-clause-fault
returns-clause-fault g c =
    let left = g.R.Read.remaining c.args.reader.now in
    let read = subst (λ b. IfSome left (λ xs. xs ≡ b)) (sym c.as_slice.ensures.value) c.in_ok-bytes.ensures.bytes in
    replay_err c.args.replay.now left c.in_ok-settings.ensures.taken c.as_slice.result.now read c.run_text.result c.run_text.ensures.refused
