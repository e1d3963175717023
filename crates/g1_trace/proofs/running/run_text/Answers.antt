use Rattle.std.proofs.lemmas.Result.{err_from_is_err_and}
use Rattle.std.proofs.Common.{IfOk, arith, subst}
use Rattle.g1_trace.specs.Mutator.{IsStep}
use Rattle.g1_trace.specs.TraceText.{command_line}
use Rattle.g1_trace.proofs.Texts.{shorter}
use Rattle.g1_trace.proofs.Tellings.{so_far_start, so_far_answered, so_far_end, so_far_refused}
use Rattle.g1_trace.proofs.running.run_text.Goals as goal

pub loop-rest-init : goal.loop-rest-init
loop-rest-init g c = so_far_start c.args.cost.now c.args.bytes.now c.in_ok-mutator.mutator c.in_ok-mutator.rest.now c.new-text.result.items
    c.traces.ensures.start c.in_ok-mutator.ensures.ok c.new-text.ensures.items

pub loop-rest-preserved : goal.loop-rest-preserved
loop-rest-preserved g c =
    let l = c.loop-rest in
    let line = c.in_ok-command in
    let reply = c.in_ok-reply.reply in
    let next = c.execute-next.result.0 in
    let told = subst (λ o. IfOk o (λ r. IsStep c.new-collector.result.cost l.mutator line.command r next)) c.in_ok-reply.was c.execute-next.ensures.replied in
    let step = subst (λ k. IsStep k l.mutator line.command reply next) c.new-collector.ensures told in
    so_far_answered c.args.cost.now c.args.bytes.now l.mutator next l.rest.now l.text.items line.more.now c.push_reply.new.text.items l.lines
    c.traces.ensures.step c.execute-next.ensures.tracked l.invariant (line.command, reply, line.ensures.text, line.ensures.fits, step, c.in_ok-push_reply.ensures.ok)

pub loop-rest-smaller : goal.loop-rest-smaller
loop-rest-smaller g c =
    let line = c.in_ok-command in
    let less = shorter c.loop-rest.rest.now (command_line line.command) line.more.now line.ensures.text in
    omega (arith, less)

pub returns-in_err-command-clause-refused : goal.returns-in_err-command-clause-refused
returns-in_err-command-clause-refused g c =
    let l = c.loop-rest in
    let e = c.in_err-command in
    let p = err_from_is_err_and c.from_residual-in_err-command.result c.from_residual-in_err-command.ensures.1 in
    rw (p.1, p.2) (so_far_refused c.args.cost.now c.args.bytes.now l.mutator l.rest.now l.text.items l.lines e.field-0.0 l.invariant (e.ensures.fault, e.ensures.bad))

pub returns-clause-told : goal.returns-clause-told
returns-clause-told g c =
    let l = c.loop-rest in
    so_far_end c.args.cost.now c.args.bytes.now l.mutator l.rest.now l.text.items l.lines l.invariant (omega (arith, c.loop-rest-test.false))

pub returns-clause-only : goal.returns-clause-only
returns-clause-only g c = λ other told. c.one_answer.ensures.one c.args.cost.now c.args.bytes.now other c.loop-rest.text.items told (returns-clause-told g c)
