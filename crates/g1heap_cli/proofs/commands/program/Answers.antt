use Rattle.std.proofs.Common.{inr}
use Rattle.g1heap_cli.proofs.commands.program.Goals as goal

-- behind what is announced
pub returns-in-Ok : goal.returns-in-Ok
returns-in-Ok g c = inr (c.in-Ok.request, _, c.in-Ok.ensures.called, c.announce.ensures, c.perform.ensures)
