use Rattle.std.proofs.lemmas.Result.{err_from_is_err_and}
use Rattle.g1_command.proofs.Got.{because_so}
use Rattle.g1heap_request.specs.Together.LacksAnother.{names_after}
use Rattle.g1heap_request.specs.Wrong.HasWrongValue.{alone}
use Rattle.g1heap_request.proofs.options.names_after_of.Goals as goal

pub returns-in_err-need-clause-refused : goal.returns-in_err-need-clause-refused
returns-in_err-need-clause-refused c =
    let p = err_from_is_err_and c.from_residual.result c.from_residual.ensures.1 in
    rw (p.1, p.2) (because_so (λ k. alone (names_after k.0 k.1)) c.in_err-need.field-0.0 c.in_err-need.ensures.refused)
