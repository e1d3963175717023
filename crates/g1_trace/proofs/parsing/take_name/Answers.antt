use Rattle.g1_trace.proofs.CommandLines.{no_spaced, no_spelled}
use Rattle.g1_trace.proofs.parsing.take_name.Goals as goal

pub returns-in-None-clause-none : goal.returns-in-None-clause-none
returns-in-None-clause-none c = no_spaced c.args.bytes.now c.in-None.ensures.none

pub returns-in-None-name_from-clause-none : goal.returns-in-None-name_from-clause-none
returns-in-None-name_from-clause-none c =
    let w = c.in-Some in
    no_spelled c.args.bytes.now w.split.0.now w.split.1.now w.ensures.some.0 w.ensures.some.1 c.in-None-name_from.ensures.none
