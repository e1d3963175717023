use Rattle.std.proofs.Common.{sym, subst}
use Rattle.g1_trace.specs.declared.session.Session.TheVariants.{Begun, Open as OpenOf}
use Rattle.g1_trace.specs.declared.session.Taken.TheVariants.{Nothing}
use Rattle.g1_trace.specs.Session.{IsDone, sizes}
use Rattle.g1_trace.proofs.Sessions.{refused_sizes}
use Rattle.g1_trace.proofs.session.begin.Goals as goal

pub returns-in-Ok-clause-done : goal.returns-in-Ok-clause-done
returns-in-Ok-clause-done c = λ k.
    let line = c.in-Some in
    let made = sizes (record { w = line.w; k = line.k; n = line.n }) line.roots c.in-Ok.ensures.limits line.ensures.some in
    subst (λ m. IsDone k Begun c.args.line.now Nothing (OpenOf m 0)) (sym c.in-Ok.ensures.ok) made

pub returns-in-Err-clause-wrong : goal.returns-in-Err-clause-wrong
returns-in-Err-clause-wrong c =
    let line = c.in-Some in
    refused_sizes c.args.line.now (record { w = line.w; k = line.k; n = line.n }) line.roots c.in-Err.fault line.ensures.fits line.ensures.some c.in-Err.ensures.refused
