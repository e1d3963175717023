use Rattle.std.specs.Prelude.{None}
use Rattle.std.proofs.lemmas.Result.{IfOk-weaker}
use Rattle.g1heap_cli.proofs.SideRead.{named}
use Rattle.g1heap_cli.proofs.files.read_whole_side.Goals as goal

pub returns-in-Ok-clause-content : goal.returns-in-Ok-clause-content
returns-in-Ok-clause-content g c = IfOk-weaker c.found_in.result _ _ (λ x is. (c.in-Ok.bytes.items, is)) c.found_in.ensures.content

pub returns-in-Ok-clause-refused : goal.returns-in-Ok-clause-refused
returns-in-Ok-clause-refused g c = named c.args.limits c.args.name.now c.in-Ok.bytes.items None (λ same. tt) c.found_in.result c.found_in.ensures.refused
