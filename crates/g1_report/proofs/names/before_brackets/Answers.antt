use Rattle.g1_report.proofs.Border.{stripped}
use Rattle.g1_report.proofs.names.before_brackets.Goals as goal

pub returns : goal.returns
returns c = stripped c.args.name.now c.strip_suffix.result c.strip_suffix.ensures.cases
