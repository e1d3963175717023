use Rattle.std.proofs.Common.{arith}
use Rattle.g1_text.specs.Forms.{IsDataWord}
use Rattle.g1_text.proofs.Fronts.{none_read, one_more_read, many_read}
use Rattle.g1_text.proofs.named.check_data.Goals as goal

pub loop-init : goal.loop-init
loop-init c = (none_read IsDataWord c.args.words.now, omega arith)

pub loop-preserved : goal.loop-preserved
loop-preserved c =
    let read = c.in_ok-value.ensures.form in
    (one_more_read IsDataWord c.loop.counter c.loop.invariant.0 (read.0, read.1, (_, read.2)), omega (arith, c.loop-test.true))

pub returns-clause-form : goal.returns-clause-form
returns-clause-form c = many_read IsDataWord c.loop.counter c.args.count (omega (arith, c.loop.invariant.1, c.loop-test.false)) c.loop.invariant.0
