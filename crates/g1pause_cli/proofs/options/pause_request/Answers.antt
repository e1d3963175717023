use Rattle.std.proofs.Common.{inl, inr}
use Rattle.std.proofs.lemmas.Result.{err_from_is_err_and}
use Rattle.g1_command.proofs.Got.{because_so}
use Rattle.g1pause_cli.proofs.options.pause_request.Goals as goal

pub returns-in_err-pause-clause-refused : goal.returns-in_err-pause-clause-refused
returns-in_err-pause-clause-refused c =
    let back = c.from_residual in
    let p = err_from_is_err_and back.result back.ensures.1 in
    rw (p.1, p.2) (because_so (λ bad. inl bad) c.in_err-pause.field-0.0 c.in_err-pause.ensures.refused)

pub returns-in_err-pause-2-clause-refused : goal.returns-in_err-pause-2-clause-refused
returns-in_err-pause-2-clause-refused c =
    let back = c.from_residual-in_err-pause-2 in
    let p = err_from_is_err_and back.result back.ensures.1 in
    rw (p.1, p.2) (because_so (λ bad. inr bad) c.in_err-pause-2.field-0.0 c.in_err-pause-2.ensures.refused)
