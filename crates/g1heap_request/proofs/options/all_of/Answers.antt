use Rattle.std.proofs.Common.{◌≡◌, ◌∙◌, Some, ap, arith}
use Rattle.std.proofs.lemmas.Result.{err_from_is_err_and}
use Rattle.clap.specs.Words.{found_of, rows_of}
use Rattle.g1_command.proofs.Got.{because_so}
use Rattle.g1heap_request.proofs.Reasons.{none_counted, not_counted}
use Rattle.g1heap_request.proofs.options.all_of.Goals as goal
use Rattle.g1_command.proofs.Reasons.{because_of}

pub returns-in_err-number-clause-refused : goal.returns-in_err-number-clause-refused
returns-in_err-number-clause-refused c =
    let p = err_from_is_err_and c.from_residual.result c.from_residual.ensures.1 in
    rw (p.1, p.2) (because_so (not_counted (rows_of (found_of c.args.values.now))) c.in_err-number.field-0.0 c.in_err-number.ensures.refused)

pub returns-in_ok-refuse-in-Some-eq0-clause-refused : goal.returns-in_ok-refuse-in-Some-eq0-clause-refused
returns-in_ok-refuse-in-Some-eq0-clause-refused c =
    let zero = c.in-Some-eq0 in
    let none : zero.field-0 ≡ 0 = omega (arith, zero.field-0-test) in
    because_of (none_counted (rows_of (found_of c.args.values.now)) c.in_ok-number.field-0 (zero.is ∙ ap Some none) c.in_ok-number.ensures.number) c.in_ok-refuse-in-Some-eq0.field-0
