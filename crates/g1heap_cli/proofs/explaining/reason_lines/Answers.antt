use Rattle.g1heap_cli.proofs.Whys.{fault_refused}
use Rattle.g1heap_cli.proofs.explaining.reason_lines.Goals as goal

pub returns-in-Err-clause-refused : goal.returns-in-Err-clause-refused
returns-in-Err-clause-refused g c = fault_refused c.args.source.now.image.now.name.bytes.items c.args.address c.args.image c.in-Err.fault c.refuse.result c.in-Err.ensures.fault c.refuse.ensures
