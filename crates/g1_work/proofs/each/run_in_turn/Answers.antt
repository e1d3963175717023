use Rattle.std.proofs.lemmas.Iterator.Consumers.{YieldsList-turn, YieldsList-end}
use Rattle.std.proofs.lemmas.Iterator.Adapters.{YieldsList-from_vec}
use Rattle.std.proofs.lemmas.List.{map-id}
use Rattle.g1_work.specs.declared.worker.Worker.{Worker}
use Rattle.std.proofs.Common.{arith, length, ◌∙◌, subst, sym, List, Result, ◌++◌, ◌∷◌, []}
use Rattle.g1_work.specs.Worker.{AreBack, IsFresh}
use Rattle.g1_work.specs.declared.worker.Worked.{Worked}
use Rattle.g1_words.specs.declared.fault.Fault.{Fault}
use Rattle.g1_work.proofs.InTurn.{back_more, back_none}
use Rattle.g1_work.proofs.each.run_in_turn.Goals as goal

pub loop-worker-preserved : goal.loop-worker-preserved
loop-worker-preserved g c = record {
  more = tt;
  ends = tt;
  back = subst (λ (rs : List (Result (Worked g.row.T-State.Denot g.row.T-Out.Denot) Fault)). AreBack (g.T.Task.runs c.args.job.now.task.now)
      (g.T.Task.may_fail c.args.job.now.task.now) c.args.job.now.dealer.now (c.loop-worker.yielded ++ c.in-Some.worker ∷ []) rs) (sym c.in_ok-push.ensures.items)
      (back_more (g.T.Task.runs c.args.job.now.task.now) (g.T.Task.may_fail c.args.job.now.task.now) c.args.job.now.dealer.now c.loop-worker.yielded
      c.loop-worker.results.items c.in-Some.worker c.work-result.result c.loop-worker.invariant.back c.work-result.ensures.ok c.work-result.ensures.err);
}

pub loop-worker-init : goal.loop-worker-init
loop-worker-init g c = record {
  more = tt;
  ends = tt;
  back = subst (λ (rs : List (Result (Worked g.row.T-State.Denot g.row.T-Out.Denot) Fault)). AreBack (g.T.Task.runs c.args.job.now.task.now)
      (g.T.Task.may_fail c.args.job.now.task.now) c.args.job.now.dealer.now [] rs) (sym c.new-results.ensures.items)
      (back_none (g.T.Task.runs c.args.job.now.task.now) (g.T.Task.may_fail c.args.job.now.task.now) c.args.job.now.dealer.now);
}

pub work-result-requires-after_bounds : goal.work-result-requires-after_bounds
work-result-requires-after_bounds g c κs within =
    let all = c.into_iter-worker-iterator.ensures.into_iter_gives in
    let t = YieldsList-turn (YieldsList-from_vec c.args.workers.items all.0 (omega (arith, all.1, c.args.workers.ok.0))) c.loop-worker.yielded c.loop-worker.worker-iterator c.loop-worker.yielded_by c.next.result c.next.new.self c.in-Some.worker c.in-Some.is c.next.ensures.steps in
    subst (IsFresh (g.T.Task.ready c.args.job.now.task.now) c.args.job.now.dealer.now) (sym t.1) (c.requires (length c.loop-worker.yielded) c.in-Some.worker t.0)

pub returns : goal.returns
returns g c =
    let all = c.into_iter-worker-iterator.ensures.into_iter_gives in
    let t = YieldsList-end (YieldsList-from_vec c.args.workers.items all.0 (omega (arith, all.1, c.args.workers.ok.0))) c.loop-worker.yielded c.loop-worker.worker-iterator c.loop-worker.yielded_by c.next.result c.next.new.self c.in-None.is c.next.ensures.steps in
    subst (λ (ws : List (Worker g.row.T-State.Denot)). AreBack (g.T.Task.runs c.args.job.now.task.now) (g.T.Task.may_fail c.args.job.now.task.now) c.args.job.now.dealer.now ws c.loop-worker.results.items)
    (sym (map-id c.loop-worker.yielded) ∙ t.0) c.loop-worker.invariant.back
