use Rattle.g1heap_request.proofs.Checked.{both, not_both}
use Rattle.g1heap_request.proofs.checks.exclude_flags.Goals as goal

pub returns-clause-apart : goal.returns-clause-apart
returns-clause-apart c =
    not_both c.flag.result c.flag-2.result c.flag.ensures.off c.flag.ensures.on c.flag-2.ensures.off c.flag-2.ensures.on c.exclude.result c.exclude.ensures.apart

pub returns-clause-refused : goal.returns-clause-refused
returns-clause-refused c =
    both c.flag.result c.flag-2.result c.flag.ensures.off c.flag.ensures.on c.flag-2.ensures.off c.flag-2.ensures.on c.exclude.result c.exclude.ensures.refused
