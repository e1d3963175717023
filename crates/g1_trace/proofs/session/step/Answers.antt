use Rattle.std.proofs.Common.{IfOk, IfErr, ◌≡◌, refl, sym, ◌∙◌, subst}
use Rattle.g1_words.specs.declared.fault.Fault.TheVariants.{Memory}
use Rattle.g1_trace.specs.Mutator.{IsStep}
use Rattle.g1_trace.specs.TraceText.{command_line}
use Rattle.g1_trace.specs.Session.{IsDone, command}
use Rattle.g1_trace.specs.declared.session.Session.TheVariants.{Open as OpenOf}
use Rattle.g1_trace.specs.declared.session.Taken.TheVariants.{Reply}
use Rattle.g1_trace.proofs.Sessions.{refused_command}
use Rattle.g1_trace.proofs.session.step.Goals as goal

pub returns-in-Ok-clause-done : goal.returns-in-Ok-clause-done
returns-in-Ok-clause-done g c = λ fit.
    let i = c.args.mutator in
    let done = c.args.command.now in
    let j = c.execute-mutator.result.0 in
    let told = subst (λ x. IfOk x (λ r. IsStep c.new-collector.result.cost i done r j)) c.in-Ok.is c.execute-mutator.ensures.replied in
    let stepped = subst (λ k. IsStep k i done c.in-Ok.reply j) (c.new-collector.ensures ∙ c.cost-cost.ensures.value) told in
    subst (λ n. IsDone c.args.settings.now.cost (OpenOf i c.args.commands) (command_line done) (Reply c.in-Ok.reply) (OpenOf j n)) (sym c.saturating_add-commands.ensures)
    (command done fit refl stepped)

pub returns-in-Err-clause-wrong : goal.returns-in-Err-clause-wrong
returns-in-Err-clause-wrong g c =
    let memory = subst (λ x. IfErr x (λ e. e ≡ Memory)) c.in-Err.is c.execute-mutator.ensures.memory in
    refused_command c.args.mutator c.args.commands c.args.command.now c.in-Err.fault memory
