use Rattle.std.proofs.Common.{◌++◌, ◌∙◌, sym, ap, subst, string_bytes}
use Rattle.std.specs.Prelude.{IfOk}
use Rattle.g1_image.specs.Image.{Image}
use Rattle.g1_text.specs.Lines.{heading, line_text}
use Rattle.g1_explain.specs.Explained.{IsTextOfPause}
use Rattle.g1_explain.proofs.Explained.{bare_end}
use Rattle.g1_explain.proofs.explaining.push_lines.Goals as goal

pub returns-in-Ok-clause-lines : goal.returns-in-Ok-clause-lines
returns-in-Ok-clause-lines g c = λ none.
    let s = c.args.settings.now in
    subst (λ (j : Image). IfOk c.push_tracked.result (λ o. IsTextOfPause s.cost s.choice j (string_bytes c.push_tracked.new.text) o)) c.in-Ok.ensures.ok
    (c.push_tracked.ensures.lines
    (c.in_ok-push_heading.ensures ∙ ap (λ l. l ++ line_text (heading c.args.image)) none ∙ ap (λ (j : Image). line_text (heading j)) (sym c.in-Ok.ensures.ok)))

pub returns-clause-lines : goal.returns-clause-lines
returns-clause-lines g c = λ none.
    let s = c.args.settings.now in
    bare_end s.cost s.choice c.args.image c.push_refusal.result c.in-Err.fault (string_bytes c.args.text.now) (string_bytes c.push_heading.new.text) (string_bytes c.push_refusal.new.text)
    c.in-Err.ensures.fault none c.in_ok-push_heading.ensures c.push_refusal.ensures.lines c.push_refusal.ensures.fault c.push_refusal.ensures.no_memory
