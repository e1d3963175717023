use Rattle.std.proofs.Common.{◌∙◌, true, sym, subst, ◌≡◌}
use Rattle.g1heap_cli.specs.Texts.{IsPartText}
use Rattle.g1heap_cli.proofs.HexLines.{part_in_hex}
use Rattle.g1heap_cli.proofs.commands.print_lines.Goals as goal

pub returns-in-Ok-with_hexadecimal-clause-text : goal.returns-in-Ok-with_hexadecimal-clause-text
returns-in-Ok-with_hexadecimal-clause-text g c =
    let hex : c.args.hex ≡ true = c.if-not-hex.false in
    subst (λ h. IsPartText c.args.part h c.args.image.now c.in-Ok-with_hexadecimal.text.bytes.items) (sym hex)
    (part_in_hex c.args.image.now c.heap.ensures.valid c.args.part c.in-Ok.text.bytes.items c.in-Ok-with_hexadecimal.text.bytes.items c.in-Ok.ensures.text
    (λ said others alike e. c.in-Ok-with_hexadecimal.ensures said others alike (c.as_str.ensures.value ∙ e)))
