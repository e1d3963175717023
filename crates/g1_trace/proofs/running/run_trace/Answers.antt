use Rattle.std.proofs.Common.{◌≡◌, ℕ, ◌<◌, List, ◌++◌, length, get_or, sym, subst, arith}
use Rattle.std.specs.Prelude.{IfOk}
use Rattle.g1_image.specs.Image.{Image}
use Rattle.g1_trace.specs.declared.command.Command.{Command}
use Rattle.g1_trace.specs.declared.command.Command.TheVariants.{New}
use Rattle.g1_trace.specs.declared.command.Reply.{Reply}
use Rattle.g1_trace.specs.Store.{IsPlainStep}
use Rattle.g1_trace.specs.Mutator.{IsStep}
use Rattle.g1_trace.specs.Views.{Shows}
use Rattle.g1_trace.specs.Run.{Replies, IsRun, empty_image, empty_store}
use Rattle.g1_trace.specs.TraceText.{sizes}
use Rattle.g1_trace.proofs.GoesOn.{leads_start, leads_on, leads_end}
use Rattle.g1_trace.proofs.running.run_trace.Goals as goal

pub loop-command-init : goal.loop-command-init
loop-command-init g c =
    let roots : ℕ = c.args.trace.now.roots in
    let all : List Command = c.deref-command-items.result.now in
    let made : c.in_ok-mutator.mutator ≡ empty_image (sizes c.args.trace.now) roots = c.in_ok-mutator.ensures.ok in
    record {
      heap = subst (λ (i : Image). (rs : List Reply) → Replies (IsStep c.args.cost.now) i all rs →
          Replies (IsStep c.args.cost.now) (empty_image (sizes c.args.trace.now) roots) all (c.new-replies.result.items ++ rs)) (sym made)
          (leads_start (IsStep c.args.cost.now) (empty_image (sizes c.args.trace.now) roots) all c.new-replies.result.items c.new-replies.ensures.items);
      plain = (
        empty_store roots,
        subst (λ (i : Image). Shows (empty_store roots) i.heap) (sym made) (c.traces.ensures.start (sizes c.args.trace.now) roots),
        leads_start IsPlainStep (empty_store roots) all c.new-replies.result.items c.new-replies.ensures.items,
      );
    }

pub loop-command-preserved : goal.loop-command-preserved
loop-command-preserved g c =
    let inv = c.loop-command.invariant in
    let all : List Command = c.deref-command-items.result.now in
    let i : Image = c.loop-command.mutator in
    let k : ℕ = c.loop-command.command-index in
    let d : Command = New 0 0 0 in
    let next : Image = c.execute-next.result.0 in
    let reply : Reply = c.in_ok-reply.reply in
    let longer : List Reply = c.push.new.self.items in
    let lt : k < length all = omega (arith, c.loop-command-test.true) in
    let told = subst (λ o. IfOk o (λ r. IsStep c.new-collector.result.cost i (get_or all k d) r next)) c.in_ok-reply.was c.execute-next.ensures.replied in
    let step : IsStep c.args.cost.now i (get_or all k d) reply next = subst (λ x. IsStep x i (get_or all k d) reply next) c.new-collector.ensures told in
    let plain = c.traces.ensures.step c.args.cost.now inv.plain.0 i (get_or all k d) reply next c.execute-next.ensures.tracked inv.plain.1 step in
    record {
      heap = leads_on (IsStep c.args.cost.now) (empty_image (sizes c.args.trace.now) c.args.trace.now.roots) all c.loop-command.replies.items i next k
          d reply longer lt inv.heap step c.in_ok-push.ensures.items;
      plain = (
        plain.0,
        plain.2,
        leads_on IsPlainStep (empty_store c.args.trace.now.roots) all c.loop-command.replies.items inv.plain.0 plain.0 k d
            reply longer lt inv.plain.2 plain.1 c.in_ok-push.ensures.items,
      );
    }

pub returns-clause-run : goal.returns-clause-run
returns-clause-run g c =
    let inv = c.loop-command.invariant in
    let all : List Command = c.deref-command-items.result.now in
    let k : ℕ = c.loop-command.command-index in
    let done : k < length all → ⊥ = λ lt. absurd (omega (arith, lt, c.loop-command-test.false)) in
    let start : ℕ = c.args.trace.now.roots in
    subst (λ cs. IsRun c.args.cost.now (sizes c.args.trace.now) start cs c.loop-command.replies.items) c.deref-command-items.ensures.value (record {
      plain = leads_end IsPlainStep (empty_store start) all c.loop-command.replies.items inv.plain.0 k done inv.plain.2;
      heap = leads_end (IsStep c.args.cost.now) (empty_image (sizes c.args.trace.now) start) all c.loop-command.replies.items c.loop-command.mutator k done inv.heap;
    })

pub returns-clause-only : goal.returns-clause-only
returns-clause-only g c = λ told run. c.one_run.ensures.run c.args.cost.now (sizes c.args.trace.now) c.args.trace.now.roots
    c.args.trace.now.commands.items told c.loop-command.replies.items run (returns-clause-run g c)

pub loop-command-smaller : goal.loop-command-smaller
loop-command-smaller g c = omega (arith, c.loop-command-test.true)

pub returns-clause-limits : goal.returns-clause-limits
returns-clause-limits g c = c.in_ok-mutator.ensures.limits
