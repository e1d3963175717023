use Rattle.std.proofs.lemmas.Result.{err_from_is_err_and}
use Rattle.clap.specs.Words.{found_of, rows_of}
use Rattle.g1_command.proofs.Got.{because_so}
use Rattle.g1_answers.proofs.Gathered.{wrong_sharing}
use Rattle.g1_answers.proofs.question.live_question.Goals as goal

pub returns-in_err-sharing-clause-refused : goal.returns-in_err-sharing-clause-refused
returns-in_err-sharing-clause-refused c =
    let back = c.from_residual in
    let p = err_from_is_err_and back.result back.ensures.1 in
    rw (p.1, p.2) (because_so (wrong_sharing (rows_of (found_of c.args.values.now))) c.in_err-sharing.field-0.0 c.in_err-sharing.ensures.refused)
