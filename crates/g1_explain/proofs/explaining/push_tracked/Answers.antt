use Rattle.std.proofs.Common.{◌∙◌, sym, ap, subst, string_bytes}
use Rattle.std.specs.Prelude.{IfOk}
use Rattle.g1_image.specs.Image.{Image}
use Rattle.g1_text.specs.Lines.{heading, line_text}
use Rattle.g1_explain.specs.Explained.{IsTextOfPause}
use Rattle.g1_explain.specs.Steps.{AreTaken}
use Rattle.g1_explain.proofs.Explained.{bad_set_end, taken_end}
use Rattle.g1_explain.proofs.explaining.push_tracked.Goals as goal

pub returns-in-Ok-clause-lines : goal.returns-in-Ok-clause-lines
returns-in-Ok-clause-lines g c = λ head.
    let s = c.args.settings.now in
    let i : Image = c.in_ok-before.before in
    let taken : AreTaken s.cost s.choice i c.in-Ok.steps =
    record { set = c.in-Ok.ensures.set; bought = c.in-Ok.ensures.bought; cards = c.in-Ok.ensures.cards; outcome = c.in-Ok.ensures.outcome } in
    subst (λ (j : Image). IfOk c.push_steps.result (λ o. IsTextOfPause s.cost s.choice j (string_bytes c.push_steps.new.text) o)) c.in_ok-before.ensures.image
    (taken_end s.cost s.choice i c.push_steps.result c.in-Ok.steps (string_bytes c.args.text.now) (string_bytes c.push_covered.new.text) (string_bytes c.push_steps.new.text)
    c.image.ensures.tracked.covered taken c.in-Ok.ensures.listed (head ∙ ap (λ (j : Image). line_text (heading j)) (sym c.in_ok-before.ensures.image))
    c.in_ok-push_covered.ensures (c.push_steps.ensures.lines taken) c.push_steps.ensures.refused)

pub returns-clause-lines : goal.returns-clause-lines
returns-clause-lines g c = λ head.
    let s = c.args.settings.now in
    let i : Image = c.in_ok-before.before in
    subst (λ (j : Image). IfOk c.push_refusal.result (λ o. IsTextOfPause s.cost s.choice j (string_bytes c.push_refusal.new.text) o)) c.in_ok-before.ensures.image
    (bad_set_end s.cost s.choice i c.push_refusal.result c.in-Err.fault (string_bytes c.args.text.now) (string_bytes c.push_covered.new.text) (string_bytes c.push_refusal.new.text)
    c.image.ensures.tracked.covered c.in-Err.ensures.refused (head ∙ ap (λ (j : Image). line_text (heading j)) (sym c.in_ok-before.ensures.image))
    c.in_ok-push_covered.ensures c.push_refusal.ensures.lines c.push_refusal.ensures.fault c.push_refusal.ensures.no_memory)
