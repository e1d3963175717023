use Rattle.g1heap_cli.proofs.SameRefused.{stopped}
use Rattle.g1heap_cli.proofs.sameness.take_covered.Goals as goal

pub returns-in-Err-clause-refused : goal.returns-in-Err-clause-refused
returns-in-Err-clause-refused g c = stopped c.in-Err.fault c.in-Err.ensures.fault
