use Rattle.g1_report.proofs.Rising.{pairs_rise}
use Rattle.g1_report.proofs.verdict.rises.Goals as goal

pub returns-clause-rising : goal.returns-clause-rising
returns-clause-rising c = λ t. pairs_rise c.args.list.now c.loop-place.place c.loop-place.invariant c.loop-place-test.false
