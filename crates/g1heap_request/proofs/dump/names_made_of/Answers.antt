use Rattle.std.proofs.Common.{◌∙◌, sym}
use Rattle.std.specs.Prelude.{codes}
use Rattle.std.proofs.lemmas.Result.{err_from_is_err_and}
use Rattle.clap.specs.Words.{first_of, found_of, rows_of}
use Rattle.g1_command.proofs.Got.{because_so}
use Rattle.g1heap_request.proofs.Checked.{not_standard, standard_is}
use Rattle.g1heap_request.proofs.dump.names_made_of.Goals as goal

pub returns-in_err-refuse_if-clause-refused : goal.returns-in_err-refuse_if-clause-refused
returns-in_err-refuse_if-clause-refused c =
    let p = err_from_is_err_and c.from_residual.result c.from_residual.ensures.1 in
    rw (p.1, p.2) (because_so (λ k. standard_is (first_of (codes "names") (rows_of (found_of c.args.values.now))) (sym c.is_standard-is_no_file.ensures ∙ k)) c.in_err-refuse_if.field-0.0 c.in_err-refuse_if.ensures.refused)

pub returns-clause-file : goal.returns-clause-file
returns-clause-file c =
    not_standard (first_of (codes "names") (rows_of (found_of c.args.values.now))) (sym c.is_standard-is_no_file.ensures ∙ c.in_ok-refuse_if.ensures.right)
