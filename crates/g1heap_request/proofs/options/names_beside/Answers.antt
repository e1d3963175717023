use Rattle.std.proofs.Common.{inr}
use Rattle.std.proofs.lemmas.Result.{err_from_is_err_and}
use Rattle.g1_command.proofs.Got.{because_so}
use Rattle.g1heap_request.specs.Wrong.HasWrongValue.{read_twice}
use Rattle.g1heap_request.proofs.options.names_beside.Goals as goal

pub returns-in_err-check_named-clause-refused : goal.returns-in_err-check_named-clause-refused
returns-in_err-check_named-clause-refused c =
    let p = err_from_is_err_and c.from_residual.result c.from_residual.ensures.1 in
    rw (p.1, p.2) (because_so (λ k. read_twice (inr k)) c.in_err-check_named.field-0.0 c.in_err-check_named.ensures.refused)
