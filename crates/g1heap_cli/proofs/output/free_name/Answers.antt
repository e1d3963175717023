use Rattle.g1heap_cli.proofs.Refused.{all_taken}
use Rattle.g1heap_cli.proofs.output.free_name.Goals as goal

-- all names beside it are taken
pub returns : goal.returns
returns g c = all_taken c.args.name.now c.no_free_name.result c.no_free_name.ensures
