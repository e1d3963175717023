use Rattle.std.proofs.Common.{[], length, sym, ◌∙◌, ap, append-nil}
use Rattle.g1_trace.specs.TraceText.{command_line}
use Rattle.g1_trace.proofs.CommandLines.{one_end}
use Rattle.g1_trace.proofs.parsing.later_line.Goals as goal

pub returns-in-None-clause-none : goal.returns-in-None-clause-none
returns-in-None-clause-none c = λ (command, fits, is). c.in-None.ensures.none command [] fits tt (is ∙ sym (append-nil (command_line command)))

pub returns-else-rest-eq0-clause-none : goal.returns-else-rest-eq0-clause-none
returns-else-rest-eq0-clause-none c = λ (command, fits, is).
    let p = c.in-Some in
    let e = one_end p.command command p.rest.now [] p.ensures.fits fits p.ensures.some.1 tt (sym p.ensures.some.0 ∙ is ∙ sym (append-nil (command_line command))) in
    c.if-rest-eq0.false (ap length e)
