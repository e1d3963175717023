use Rattle.std.proofs.Common.{◌+◌, inr, length, refl, arith}
use Rattle.g1_trace.specs.TraceText.{command_line}
use Rattle.g1_trace.proofs.Texts.{read_start, read_more, read_end, bad_start, bad_first, bad_later, shorter}
use Rattle.g1_trace.proofs.parsing.parse_trace.Goals as goal

pub returns-in-None-clause-err : goal.returns-in-None-clause-err
returns-in-None-clause-err c = inr (1, refl, bad_start c.args.bytes.now c.in-None.ensures.none)

pub returns-in-None-first_line-clause-err : goal.returns-in-None-first_line-clause-err
returns-in-None-first_line-clause-err c = inr (
  1,
  refl,
  bad_first c.args.bytes.now c.in-Some.split.0.now c.in-Some.split.1.now
      c.in-Some.ensures.some.0 c.in-Some.ensures.some.1 c.in-None-first_line.ensures.none,
)

pub loop-rest-init : goal.loop-rest-init
loop-rest-init c =
    let n = c.in-Some-first_line.numbers in
    read_start c.args.bytes.now c.in-Some.split.0.now c.in-Some.split.1.now n.0 n.1 n.2 n.3 c.new-commands.result.items c.in-Some.ensures.some.0
    c.in-Some-first_line.ensures.some c.in-Some-first_line.ensures.fits c.new-commands.ensures.items

pub returns-in-Err-clause-err : goal.returns-in-Err-clause-err
returns-in-Err-clause-err c = inr (
  c.len.result + 2,
  c.in-Err.ensures.fault,
  bad_later c.args.bytes.now _ _ _ _ c.loop-rest.commands.items c.loop-rest.rest.now (c.len.result + 2) c.loop-rest.invariant (omega (arith, c.len.ensures, c.loop-rest.commands.ok))
      (c.in-Err.ensures.bad (length c.loop-rest.commands.items)),
)

pub loop-rest-preserved : goal.loop-rest-preserved
loop-rest-preserved c =
    let command = c.in-Ok.read.0 in
    read_more c.args.bytes.now _ _ _ _ c.loop-rest.commands.items c.push.new.self.items c.loop-rest.rest.now (command_line command) c.in-Ok.read.1.now command
    c.loop-rest.invariant c.in-Ok.ensures.text refl c.in-Ok.ensures.fits c.in_ok-push.ensures.items

pub loop-rest-smaller : goal.loop-rest-smaller
loop-rest-smaller c =
    let less = shorter c.loop-rest.rest.now (command_line c.in-Ok.read.0) c.in-Ok.read.1.now c.in-Ok.ensures.text in
    omega (arith, less)

pub returns-clause-ok : goal.returns-clause-ok
returns-clause-ok c =
    let n = c.in-Some-first_line.numbers in
    read_end c.args.bytes.now (record { w = n.0; k = n.1; n = n.2 }) n.3 c.loop-rest.commands.items c.loop-rest.rest.now c.loop-rest.invariant (omega (arith, c.loop-rest-test.false))
