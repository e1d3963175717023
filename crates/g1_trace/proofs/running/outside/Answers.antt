use Rattle.std.proofs.Common.{inr, refl}
use Rattle.g1_trace.specs.TraceText.{sizes}
use Rattle.g1_trace.proofs.Tellings.{text_outside}
use Rattle.g1_trace.proofs.running.outside.Goals as goal

pub returns-in-Ok : goal.returns-in-Ok
returns-in-Ok c = inr (inr (refl, text_outside c.args.bytes.now (sizes c.in-Ok._trace) c.in-Ok._trace.roots c.in-Ok._trace.commands.items c.requires c.in-Ok.ensures.ok))
