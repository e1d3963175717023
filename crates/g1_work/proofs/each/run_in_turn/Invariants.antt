use Rattle.g1_work.specs.Worker.{AreBack}
use Rattle.g1_work.proofs.each.run_in_turn.Given as goal

abbrev pub invariant-loop-worker : goal.invariant-loop-worker
invariant-loop-worker g l = record {
  more : (goal.iterator-loop-worker g).can_next l.worker-iterator;
  ends : (goal.iterator-loop-worker g).is_finite l.worker-iterator;
  back : AreBack (g.T.Task.runs l.job.task.now) (g.T.Task.may_fail l.job.task.now) l.job.dealer.now l.yielded l.results.items;
}
