use Rattle.std.proofs.Common.{◌≡◌, rules, codes}
use Rattle.g1heap_cli.proofs.SideRead.{of_file}
use Rattle.g1heap_cli.proofs.files.read_side.Goals as goal

-- a file that is not standard input
pub returns-clause-refused : goal.returns-clause-refused
returns-clause-refused g c =
    let other : c.args.name.now ≡ codes "-" → ⊥ = search rules in
    of_file c.args.limits c.args.name.now (g.R.Read.remaining c.args.reader.now) other c.read_file_side.result c.read_file_side.ensures.refused
