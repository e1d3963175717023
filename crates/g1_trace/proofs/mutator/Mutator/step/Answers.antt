use Rattle.std.proofs.Common.{◌≡◌, IfOk, subst}
use Rattle.std.proofs.lemmas.Result.{IfOk-weaker}
use Rattle.g1_image.specs.Image.{Image}
use Rattle.g1_trace.specs.declared.command.Reply.{Reply}
use Rattle.g1_trace.specs.Mutator.{IsStep}
use Rattle.g1_trace.specs.Store.{Store, IsPlainStep}
use Rattle.g1_trace.specs.Views.{Shows}
use Rattle.g1_trace.proofs.mutator.Mutator.step.Goals as goal

pub returns-clause-tracked : goal.returns-clause-tracked
returns-clause-tracked g c = c.execute.ensures.tracked

pub returns-clause-replied : goal.returns-clause-replied
returns-clause-replied g c =
    subst (λ k. IfOk c.execute.result.1 (λ r. IsStep k c.args.self c.args.command.now r c.execute.result.0)) c.new-collector.ensures c.execute.ensures.replied

pub returns-clause-only : goal.returns-clause-only
returns-clause-only g c =
    let i : Image = c.args.self in
    let j : Image = c.execute.result.0 in
    IfOk-weaker c.execute.result.1 (λ r. IsStep c.args.cost.now i c.args.command.now r j)
    (λ r. (told : Reply) (k : Image) → IsStep c.args.cost.now i c.args.command.now told k → (told ≡ r) × (k ≡ j))
    (λ r st told k other. c.one_run.ensures.step c.args.cost.now i c.args.command.now told r k j other st) (returns-clause-replied g c)

pub returns-clause-shows : goal.returns-clause-shows
returns-clause-shows g c =
    let i : Image = c.args.self in
    let j : Image = c.execute.result.0 in
    IfOk-weaker c.execute.result.1 (λ r. IsStep c.args.cost.now i c.args.command.now r j)
    (λ r. (s : Store) → Shows s i.heap → (t : Store) × IsPlainStep s c.args.command.now r t × Shows t j.heap)
    (λ r st s shows. c.traces.ensures.step c.args.cost.now s i c.args.command.now r j (returns-clause-tracked g c) shows st) (returns-clause-replied g c)
