use Rattle.std.proofs.Common.{refl}
use Rattle.std.proofs.lemmas.Result.{err_from_is_err_and}
use Rattle.g1_command.proofs.Got.{because_so}
use Rattle.clap.specs.Words.{found_of, rows_of}
use Rattle.g1heap_request.proofs.Reasons.{no_address}
use Rattle.g1heap_request.proofs.options.why_of.Goals as goal

pub returns-clause-asks : goal.returns-clause-asks
returns-clause-asks c = (refl, record { image = c.in_ok-image_of.ensures.image; address = c.in_ok-required_number.ensures.number; names = c.in_ok-names_beside.ensures.names; once = c.in_ok-names_beside.ensures.once })

pub returns-in_err-required_number-clause-refused : goal.returns-in_err-required_number-clause-refused
returns-in_err-required_number-clause-refused c =
    let p = err_from_is_err_and c.from_residual-in_err-required_number.result c.from_residual-in_err-required_number.ensures.1 in
    rw (p.1, p.2) (because_so (no_address (rows_of (found_of c.args.values.now))) c.in_err-required_number.field-0.0 c.in_err-required_number.ensures.refused)
