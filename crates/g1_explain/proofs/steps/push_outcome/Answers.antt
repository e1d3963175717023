use Rattle.std.proofs.Common.{◌++◌, ◌∙◌, length, sym, ap, subst, string_bytes}
use Rattle.std.proofs.lemmas.Result.{on_ok_weaker}
use Rattle.g1_pause.specs.declared.steps.Outcome.{Outcome}
use Rattle.g1_pause.specs.Steps.{IsOutcome}
use Rattle.g1_text.specs.Lines.{text_of}
use Rattle.g1_explain.specs.Steps.{outcome_lines}
use Rattle.g1_explain.proofs.steps.push_outcome.Goals as goal

pub returns-in-NoRoom-clause-lines : goal.returns-in-NoRoom-clause-lines
returns-in-NoRoom-clause-lines c = λ set rising outside lead found.
    on_ok_weaker c.push_lacking.result
    (λ e. e ∙ ap (λ (o : Outcome). string_bytes c.args.text.now ++ text_of (outcome_lines c.args.before.now set (length c.args.cards.now) o)) (sym c.in-NoRoom.is))
    (c.push_lacking.ensures.lines set rising outside lead (subst (IsOutcome c.args.before.now set) c.in-NoRoom.is found))

pub returns-in-Ready-clause-lines : goal.returns-in-Ready-clause-lines
returns-in-Ready-clause-lines c = λ set rising outside lead made.
    on_ok_weaker c.push_made.result
    (λ e. e ∙ ap (λ (o : Outcome). string_bytes c.args.text.now ++ text_of (outcome_lines c.args.before.now set (length c.args.cards.now) o)) (sym c.in-Ready.is))
    (c.push_made.ensures.lines set rising outside lead (subst (IsOutcome c.args.before.now set) c.in-Ready.is made))
