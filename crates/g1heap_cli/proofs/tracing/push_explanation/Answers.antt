use Rattle.std.proofs.Common.{◌++◌, ◌∙◌, ap, string_bytes}
use Rattle.g1heap_cli.proofs.tracing.push_explanation.Goals as goal

pub returns-in_ok-extend_from_slice-in-Ok-clause-lines : goal.returns-in_ok-extend_from_slice-in-Ok-clause-lines
returns-in_ok-extend_from_slice-in-Ok-clause-lines g c = λ is.
    (string_bytes c.in-Ok.explanation.text, c.in-Ok.ensures.lines is, c.in_ok-extend_from_slice-in-Ok.ensures.items ∙ ap (λ l. c.args.replies.now.items ++ l) c.as_bytes.ensures.value)
