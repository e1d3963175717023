use Rattle.std.proofs.Common.{◌∷◌, length, refl, sym, ◌∙◌, ap, arith}
use Rattle.g1_trace.proofs.Texts.{bad_command}
use Rattle.g1_trace.proofs.CommandLines.{one_end}
use Rattle.g1_trace.proofs.parsing.next_command.Goals as goal

pub returns-in-None-clause-bad : goal.returns-in-None-clause-bad
returns-in-None-clause-bad c = λ m. bad_command m c.args.lines.now c.requires (λ command more fits e. c.in-None.ensures.none command (10 ∷ more) fits refl e)

pub returns-then-end-eq0-clause-bad : goal.returns-then-end-eq0-clause-bad
returns-then-end-eq0-clause-bad c = λ m.
    let p = c.in-Some in
    bad_command m c.args.lines.now c.requires (λ command more fits e.
    let l = ap length (one_end p.command command p.end.now (10 ∷ more) p.ensures.fits fits p.ensures.some.1 refl (sym p.ensures.some.0 ∙ e)) in
    absurd (omega (arith, l, c.if-end-eq0.true)))
