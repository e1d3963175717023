use Rattle.std.proofs.Common.{◌∙◌, arith, refl, sym}
use Rattle.g1_work.proofs.Firsts.{some_found, some_passed, some_over}
use Rattle.g1_work.proofs.ranges.first_found.Goals as goal

pub loop-slot-init : goal.loop-slot-init
loop-slot-init c = refl

pub returns-in-Some : goal.returns-in-Some
returns-in-Some c = sym (c.loop-slot.invariant ∙ some_found c.args.found.now c.loop-slot.slot-index c.in-Some.p c.loop-slot-test.true c.in-Some.is)

pub loop-slot-preserved : goal.loop-slot-preserved
loop-slot-preserved c = c.loop-slot.invariant ∙ some_passed c.args.found.now c.loop-slot.slot-index c.loop-slot-test.true c.in_default.is

pub returns : goal.returns
returns c = sym (c.loop-slot.invariant ∙ some_over c.args.found.now c.loop-slot.slot-index (omega (arith, c.loop-slot-test.false)))
