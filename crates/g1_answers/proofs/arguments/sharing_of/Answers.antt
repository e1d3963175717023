use Rattle.std.proofs.Common.{refl, arith}
use Rattle.std.specs.Prelude.{codes}
use Rattle.std.proofs.lemmas.Result.{err_from_is_err_and}
use Rattle.g1_command.proofs.Got.{because_so}
use Rattle.g1_answers.proofs.arguments.sharing_of.Goals as goal

pub returns-in_err-required_number-2-clause-refused : goal.returns-in_err-required_number-2-clause-refused
returns-in_err-required_number-2-clause-refused c =
    let back = c.from_residual-in_err-required_number-2 in
    let p = err_from_is_err_and back.result back.ensures.1 in
    rw (p.1, p.2) (because_so (λ bad. (1, codes "chunk", omega arith, refl, bad)) c.in_err-required_number-2.field-0.0 c.in_err-required_number-2.ensures.refused)
