use Rattle.std.specs.Prelude.{codes}
use Rattle.clap.specs.Words.{found_of, rows_of}
use Rattle.g1heap_request.specs.Together.{is_standard}
use Rattle.g1heap_request.proofs.Checked.{once_of_two, refused_so, twice_of_two, with_last}
use Rattle.g1heap_request.proofs.checks.check_named.Goals as goal

pub returns-clause-once : goal.returns-clause-once
returns-clause-once c =
    with_last (once_of_two (is_standard (rows_of (found_of c.args.values.now))) (codes "image") (codes "names") c.is_standard.result c.is_standard-2.result c.is_standard.ensures c.is_standard-2.ensures)
    c.refuse_if.result c.refuse_if.ensures.right

pub returns-clause-refused : goal.returns-clause-refused
returns-clause-refused c =
    refused_so (twice_of_two (is_standard (rows_of (found_of c.args.values.now))) (codes "image") (codes "names") c.is_standard.result c.is_standard-2.result c.is_standard.ensures c.is_standard-2.ensures)
    c.refuse_if.result c.refuse_if.ensures.refused
