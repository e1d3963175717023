use Rattle.std.proofs.Common.{string_bytes}
use Rattle.g1_explain.proofs.StepLines.{pause_end}
use Rattle.g1_explain.proofs.Unkept.{steps_free}
use Rattle.g1_explain.proofs.explaining.explain_steps.Goals as goal

pub returns-clause-lines : goal.returns-clause-lines
returns-clause-lines c = λ t.
    pause_end c.args.settings.now.cost c.args.before.now c.image.result.now c.args.steps.now (string_bytes c.new-text.result) (string_bytes c.push_heading.new.text) (string_bytes c.push_covered.new.text) _
    c.image.ensures.same c.new-text.ensures.bytes c.in_ok-push_heading.ensures c.in_ok-push_covered.ensures (c.in_ok-refused.ensures.lines t)

pub returns-clause-freed : goal.returns-clause-freed
returns-clause-freed c = λ t. steps_free c.args.before.now c.args.steps.now.collection.regions.items c.args.steps.now.outcome c.image.ensures.tracked t.outcome
