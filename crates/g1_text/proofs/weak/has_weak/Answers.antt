use Rattle.std.proofs.Common.{sym, arith}
use Rattle.g1_text.proofs.WeakLines.{weak_at}
use Rattle.g1_text.proofs.weak.has_weak.Goals as goal

pub returns-then-target : goal.returns-then-target
returns-then-target c = sym (weak_at c.args.targets.now c.loop-target.target-index _ (omega (arith, c.loop-target-test.true)) c.if-target.true)
