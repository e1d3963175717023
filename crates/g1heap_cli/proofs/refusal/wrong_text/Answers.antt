use Rattle.std.proofs.Common.{inl, inr, refl, []}
use Rattle.g1heap_cli.specs.Refusals.{cause_line}
use Rattle.g1heap_cli.proofs.Told.{line_text}
use Rattle.g1heap_cli.proofs.refusal.wrong_text.Goals as goal

pub returns-in-Some : goal.returns-in-Some
returns-in-Some g c =
    let hint = c.in_ok-hint-in-Some.hint.bytes.items in
    line_text c.format-in-Some-2.result (λ s. s.bytes.items) c.args.name.now c.args.number c.in_ok-expected.expected.bytes.items (cause_line hint) (inr (hint, refl))
    c.format-in-Some-2.ensures.ok

pub returns : goal.returns
returns g c =
    line_text c.format-in-None.result (λ s. s.bytes.items) c.args.name.now c.args.number c.in_ok-expected.expected.bytes.items [] (inl refl) c.format-in-None.ensures.ok
