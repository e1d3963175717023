use Rattle.std.proofs.lemmas.Result.{err_from_is_err_and}
use Rattle.g1_command.proofs.Got.{because_so}
use Rattle.std.specs.Prelude.{codes}
use Rattle.clap.specs.Words.{found_of, rows_of}
use Rattle.g1heap_request.specs.Together.{is_standard}
use Rattle.g1heap_request.proofs.Checked.{first_twice, once_of_four, refused_so, twice_of_four, with_last}
use Rattle.g1heap_request.proofs.checks.check_compared.Goals as goal

pub returns-in_err-refuse_if-clause-refused : goal.returns-in_err-refuse_if-clause-refused
returns-in_err-refuse_if-clause-refused c =
    let p = err_from_is_err_and c.from_residual.result c.from_residual.ensures.1 in
    rw (p.1, p.2) (because_so (first_twice (is_standard (rows_of (found_of c.args.values.now))) (codes "before") (codes "after") c.is_standard-before.result c.is_standard-after.result c.is_standard-before.ensures c.is_standard-after.ensures
    (codes "names") (codes "names-after") c.is_standard-names.result c.is_standard-others.result c.is_standard-names.ensures c.is_standard-others.ensures) c.in_err-refuse_if.field-0.0 c.in_err-refuse_if.ensures.refused)

pub returns-clause-once : goal.returns-clause-once
returns-clause-once c =
    with_last (once_of_four (is_standard (rows_of (found_of c.args.values.now))) (codes "before") (codes "after") c.is_standard-before.result c.is_standard-after.result c.is_standard-before.ensures c.is_standard-after.ensures
    (codes "names") (codes "names-after") c.is_standard-names.result c.is_standard-others.result c.is_standard-names.ensures c.is_standard-others.ensures c.in_ok-refuse_if.ensures.right)
    c.refuse_if-2.result c.refuse_if-2.ensures.right

pub returns-clause-refused : goal.returns-clause-refused
returns-clause-refused c =
    refused_so (twice_of_four (is_standard (rows_of (found_of c.args.values.now))) (codes "before") (codes "after") c.is_standard-before.result c.is_standard-after.result c.is_standard-before.ensures c.is_standard-after.ensures
    (codes "names") (codes "names-after") c.is_standard-names.result c.is_standard-others.result c.is_standard-names.ensures c.is_standard-others.ensures)
    c.refuse_if-2.result c.refuse_if-2.ensures.refused
