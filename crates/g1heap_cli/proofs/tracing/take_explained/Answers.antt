use Rattle.std.proofs.Common.{inl}
use Rattle.g1heap_cli.proofs.TraceAdds.{explains_asked}
use Rattle.g1heap_cli.proofs.TraceRefused.{budget_stopped}
use Rattle.g1heap_cli.proofs.tracing.take_explained.Goals as goal

pub returns-in-Ok-explained_steps-clause-lines : goal.returns-in-Ok-explained_steps-clause-lines
returns-in-Ok-explained_steps-clause-lines g c =
    let trace = c.args.job.now.trace.now in
    explains_asked trace.cost c.in-Ok.settings.cost c.in-Ok.settings.choice c.in-Some.budget c.in-Some.tracked.now c.args.state.now.session c.args.content.now c.args.state.now.replies.items
    c.explained_steps.new.replies.items c.in-Ok.ensures.cost c.in-Ok.ensures.choice c.in-Some.ensures.some.0 c.in-Some.ensures.some.1 c.in-Ok-explained_steps.ensures.lines

-- the settings are refused
pub returns-in-Err-clause-refused : goal.returns-in-Err-clause-refused
returns-in-Err-clause-refused g c = inl c.in-Err.ensures.refused

-- the steps are
pub returns-clause-refused : goal.returns-clause-refused
returns-clause-refused g c =
    budget_stopped c.args.job.now.trace.now c.in-Some.tracked.now.heap c.in-Some.budget c.in-Ok.settings.choice c.in-Err-explained_steps.refusal c.in-Ok.ensures.choice c.in-Err-explained_steps.ensures.refused
