use Rattle.std.proofs.Common.{refl, arith}
use Rattle.std.specs.Prelude.{codes}
use Rattle.std.proofs.lemmas.Result.{err_from_is_err_and}
use Rattle.clap.specs.Words.{found_of, rows_of}
use Rattle.g1_command.proofs.Got.{because_so}
use Rattle.g1_answers.proofs.Gathered.{wrong_sharing, wrong_cost}
use Rattle.g1_answers.proofs.question.choose_question.Goals as goal

pub returns-in_err-sharing_of-clause-refused : goal.returns-in_err-sharing_of-clause-refused
returns-in_err-sharing_of-clause-refused c =
    let back = c.from_residual in
    let p = err_from_is_err_and back.result back.ensures.1 in
    rw (p.1, p.2) (because_so (wrong_sharing (rows_of (found_of c.args.values.now))) c.in_err-sharing_of.field-0.0 c.in_err-sharing_of.ensures.refused)

pub returns-in_err-cost_of-clause-refused : goal.returns-in_err-cost_of-clause-refused
returns-in_err-cost_of-clause-refused c =
    let back = c.from_residual-in_err-cost_of in
    let p = err_from_is_err_and back.result back.ensures.1 in
    rw (p.1, p.2) (because_so (wrong_cost (rows_of (found_of c.args.values.now))) c.in_err-cost_of.field-0.0 c.in_err-cost_of.ensures.refused)

pub returns-in_err-required_number-clause-refused : goal.returns-in_err-required_number-clause-refused
returns-in_err-required_number-clause-refused c =
    let back = c.from_residual-in_err-required_number in
    let p = err_from_is_err_and back.result back.ensures.1 in
    rw (p.1, p.2) (because_so (λ bad. (6, codes "budget", omega arith, refl, bad)) c.in_err-required_number.field-0.0 c.in_err-required_number.ensures.refused)
