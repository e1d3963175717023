use Rattle.g1_trace.specs.Lines.{listed}
use Rattle.g1_trace.proofs.CommandLines.{no_name, no_such}
use Rattle.g1_trace.proofs.parsing.take_command.Goals as goal

pub returns-in-None-clause-none : goal.returns-in-None-clause-none
returns-in-None-clause-none c = no_name c.args.bytes.now c.in-None.ensures.none

pub returns-in-None-with_numbers-clause-none : goal.returns-in-None-with_numbers-clause-none
returns-in-None-with_numbers-clause-none c =
    let p = c.in-Some in
    let q = c.in-Some-take_numbers in
    no_such c.args.bytes.now p.taken.0 p.taken.1.now p.ensures.some (listed q.taken.0) q.taken.1.now q.ensures.some.0 q.ensures.fits q.ensures.some.1 c.in-None-with_numbers.ensures.none
