use Rattle.std.proofs.Common.{arith}
use Rattle.std.specs.Prelude.{codes}
use Rattle.g1_text.specs.Forms.{IsTarget}
use Rattle.g1_text.proofs.Fronts.{none_read, one_more_read, many_read, other_word}
use Rattle.g1_text.proofs.named.check_names.Goals as goal

pub loop-slot-init : goal.loop-slot-init
loop-slot-init c = (none_read IsTarget c.args.words.now, omega arith)

pub loop-slot-preserved : goal.loop-slot-preserved
loop-slot-preserved c =
    let name = c.in-Some.name.now in
    (one_more_read IsTarget c.loop-slot.slot c.loop-slot.invariant.0 (name, c.in-Some.ensures, other_word name (codes "..") c.if-eq.ensures), omega (arith, c.loop-slot-test.true))

pub returns-clause-form : goal.returns-clause-form
returns-clause-form c = many_read IsTarget c.loop-slot.slot c.args.count (omega (arith, c.loop-slot.invariant.1, c.loop-slot-test.false)) c.loop-slot.invariant.0
