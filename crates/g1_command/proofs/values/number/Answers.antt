use Rattle.std.proofs.lemmas.Result.{err_from_is_err_and}
use Rattle.clap.specs.Words.{found_of}
use Rattle.g1_command.specs.Values.{IsNumber}
use Rattle.g1_command.proofs.Got.{nothing_got, some_got, wrong_number}
use Rattle.g1_command.proofs.values.number.Goals as goal

pub returns-in-None-clause-number : goal.returns-in-None-clause-number
returns-in-None-clause-number c = nothing_got (found_of c.args.values.now) c.args.argument.now.id.now c.get_str.result c.get_str.ensures IsNumber c.in-None.is

pub returns-in_ok-number_in-in-Some-clause-number : goal.returns-in_ok-number_in-in-Some-clause-number
returns-in_ok-number_in-in-Some-clause-number c =
    let one = c.in_ok-number_in-in-Some in
    some_got (found_of c.args.values.now) c.args.argument.now.id.now c.get_str.result c.get_str.ensures c.in-Some.text c.in-Some.is IsNumber one.field-0 one.ensures.number

pub returns-in_err-number_in-in-Some-clause-refused : goal.returns-in_err-number_in-in-Some-clause-refused
returns-in_err-number_in-in-Some-clause-refused c =
    let p = err_from_is_err_and c.from_residual.result c.from_residual.ensures.1 in
    let bad = c.in_err-number_in-in-Some in
    rw (p.1, p.2) (wrong_number (found_of c.args.values.now) c.args.argument.now.id.now c.get_str.result c.get_str.ensures c.in-Some.text c.in-Some.is bad.field-0.0 bad.ensures.refused)
