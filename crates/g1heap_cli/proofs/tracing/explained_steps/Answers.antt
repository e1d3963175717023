use Rattle.std.proofs.Common.{inl, refl, sym, subst}
use Rattle.g1_words.specs.declared.fault.Fault.TheVariants as fault
use Rattle.g1_image.specs.Image.{Image}
use Rattle.g1_explain.specs.Steps.{AreTaken}
use Rattle.g1heap_cli.specs.Refusals.{RefusesFile}
use Rattle.g1heap_cli.proofs.TraceAdds.{pause_added}
use Rattle.g1heap_cli.proofs.tracing.explained_steps.Goals as goal

pub returns-in-Ok-push_explanation-clause-lines : goal.returns-in-Ok-push_explanation-clause-lines
returns-in-Ok-push_explanation-clause-lines g c =
    let s = c.args.settings.now in
    let i : Image = c.in-Ok.before in
    let steps = c.in-Ok-take_steps in
    let taken : AreTaken s.cost s.choice i steps.steps = record { set = steps.ensures.set; bought = steps.ensures.bought; cards = steps.ensures.cards; outcome = steps.ensures.outcome } in
    pause_added s.cost s.choice i c.args.tracked.now steps.steps c.args.replies.now.items c.push_explanation.new.replies.items c.in-Ok.ensures.image c.image.ensures.tracked.covered taken
    steps.ensures.listed (c.in-Ok-push_explanation.ensures.lines taken)

-- memory is wanted for the lines
pub returns-in-Ok-take_steps-clause-refused : goal.returns-in-Ok-take_steps-clause-refused
returns-in-Ok-take_steps-clause-refused g c =
    let file = c.args.job.now.trace.now.name.bytes.items in
    (fault.Memory, inl refl, subst (RefusesFile file fault.Memory) (sym c.in-Err-push_explanation.ensures.memory) refl)
