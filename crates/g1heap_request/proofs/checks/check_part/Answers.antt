use Rattle.std.proofs.lemmas.Result.{err_from_is_err_and}
use Rattle.g1_command.proofs.Got.{because_so}
use Rattle.g1heap_request.specs.Together.LacksAnother.{dangling_null, weak, without}
use Rattle.g1heap_request.proofs.Checked.{refused_so, with_last}
use Rattle.g1heap_request.proofs.checks.check_part.Goals as goal

pub returns-in_err-need-clause-refused : goal.returns-in_err-need-clause-refused
returns-in_err-need-clause-refused c =
    let p = err_from_is_err_and c.from_residual.result c.from_residual.ensures.1 in
    rw (p.1, p.2) (because_so (λ k. without k.0 k.1) c.in_err-need.field-0.0 c.in_err-need.ensures.refused)

pub returns-in_err-need_for_flag-clause-refused : goal.returns-in_err-need_for_flag-clause-refused
returns-in_err-need_for_flag-clause-refused c =
    let p = err_from_is_err_and c.from_residual-in_err-need_for_flag.result c.from_residual-in_err-need_for_flag.ensures.1 in
    rw (p.1, p.2) (because_so (λ k. weak k.0 k.1) c.in_err-need_for_flag.field-0.0 c.in_err-need_for_flag.ensures.refused)

pub returns-clause-refused : goal.returns-clause-refused
returns-clause-refused c = refused_so (λ k. dangling_null k.0 k.1) c.need_for_flag-2.result c.need_for_flag-2.ensures.refused

pub returns-clause-part : goal.returns-clause-part
returns-clause-part c =
    with_last (λ last. record { without = c.in_ok-need.ensures.beside; weak = c.in_ok-need_for_flag.ensures.beside; dangling_null = last })
    c.need_for_flag-2.result c.need_for_flag-2.ensures.beside
