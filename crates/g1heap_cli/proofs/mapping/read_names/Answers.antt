use Rattle.g1_report.specs.Program.{labels_told}
use Rattle.g1heap_cli.proofs.NamesRead.{given_left, given_refused}
use Rattle.g1heap_cli.proofs.mapping.read_names.Goals as goal

pub returns-in-Ok-clause-left : goal.returns-in-Ok-clause-left
returns-in-Ok-clause-left g c =
    let left = g.R.Read.remaining c.args.reader.now in
    given_left c.args.file.now c.in-Some.file c.as_str.result.now left c.in-Some.is c.as_str.ensures.value (g.R.Read.remaining c.read_named.new.reader) c.read_named.ensures.left

pub returns-in-Err-clause-refused : goal.returns-in-Err-clause-refused
returns-in-Err-clause-refused g c =
    let left = g.R.Read.remaining c.args.reader.now in
    given_refused c.args.file.now c.in-Some.file c.as_str.result.now left c.in-Some.is c.as_str.ensures.value (labels_told c.args.labels) c.in-Err.refusal c.in-Err.ensures.refused

pub returns-in-Err-clause-left : goal.returns-in-Err-clause-left
returns-in-Err-clause-left g c =
    let left = g.R.Read.remaining c.args.reader.now in
    given_left c.args.file.now c.in-Some.file c.as_str.result.now left c.in-Some.is c.as_str.ensures.value (g.R.Read.remaining c.read_named.new.reader) c.read_named.ensures.left
