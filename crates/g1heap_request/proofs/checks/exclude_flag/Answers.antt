use Rattle.clap.specs.Words.{first_of, found_of, rows_of}
use Rattle.g1heap_request.proofs.Checked.{both, gone, here, not_both}
use Rattle.g1heap_request.proofs.checks.exclude_flag.Goals as goal

pub returns-clause-apart : goal.returns-clause-apart
returns-clause-apart c =
    not_both c.flag.result c.given.result c.flag.ensures.off c.flag.ensures.on (gone (first_of c.args.other.now.id.now (rows_of (found_of c.args.values.now))) c.given.result c.given.ensures) (here (first_of c.args.other.now.id.now (rows_of (found_of c.args.values.now))) c.given.result c.given.ensures) c.exclude.result c.exclude.ensures.apart

pub returns-clause-refused : goal.returns-clause-refused
returns-clause-refused c =
    both c.flag.result c.given.result c.flag.ensures.off c.flag.ensures.on (gone (first_of c.args.other.now.id.now (rows_of (found_of c.args.values.now))) c.given.result c.given.ensures) (here (first_of c.args.other.now.id.now (rows_of (found_of c.args.values.now))) c.given.result c.given.ensures) c.exclude.result c.exclude.ensures.refused
