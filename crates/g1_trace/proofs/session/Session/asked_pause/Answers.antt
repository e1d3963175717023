use Rattle.std.proofs.Common.{IfNone, subst}
use Rattle.g1_trace.specs.TraceText.{IsCommandLine}
use Rattle.g1_trace.proofs.Sessions.{no_command}
use Rattle.g1_trace.proofs.session.Session.asked_pause.Goals as goal

pub returns-in-None-clause-none : goal.returns-in-None-clause-none
returns-in-None-clause-none c =
    no_command c.args.self.now c.args.line.now (subst (λ o. IfNone o (IsCommandLine c.args.line.now → ⊥)) c.in-None.is c.later_line.ensures.none)
