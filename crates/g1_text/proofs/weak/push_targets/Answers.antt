use Rattle.std.proofs.Common.{arith}
use Rattle.g1_text.specs.Weak.{IsStrong}
use Rattle.g1_text.proofs.WeakLines.{targets_more}
use Rattle.g1_text.proofs.weak.push_targets.Goals as goal

pub loop-target-preserved : goal.loop-target-preserved
loop-target-preserved c = λ lines strong.
    targets_more (IsStrong lines) c.args.targets.now c.loop-target.target-index _ c.args.out.now.items c.loop-target.out.items c.push_word.new.out.items c.word_for.result.now
    (omega (arith, c.loop-target-test.true)) (c.loop-target.invariant lines strong) (c.word_for.ensures lines strong) c.in_ok-push_word.ensures
