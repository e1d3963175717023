use Rattle.g1heap_cli.proofs.SideRead.{any_named}
use Rattle.g1heap_cli.proofs.files.read_once.Goals as goal
use Rattle.g1heap_cli.proofs.files.read_once.Goals.{in-Ok-read_content, in-Err-read_content}

-- lines
pub returns-then-is_graph-clause-refused : goal.returns-then-is_graph-clause-refused
returns-then-is_graph-clause-refused g c = elim c.match-read_content.branch [
  | in-Ok-read_content w ↦ rw w.result-is tt
  | in-Err-read_content w ↦ rw w.result-is (any_named c.args.limits c.args.name.now _ w.in-Err-read_content.refusal w.in-Err-read_content.ensures.refused)
]
