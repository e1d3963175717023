use Rattle.std.proofs.Common.{◌≡◌, ◌∙◌, inl, inr, ap}
use Rattle.std.specs.Prelude.{None}
use Rattle.g1_image.specs.Image.{Image}
use Rattle.g1_report.specs.Program.{program_of}
use Rattle.g1heap_cli.specs.Named.{RefusesNamesOf}
use Rattle.g1heap_cli.specs.Texts.{IsReasonText}
use Rattle.g1heap_cli.proofs.NamesRead.{not_names, text_named}
use Rattle.g1heap_cli.proofs.explaining.named_lines.Goals as goal

-- the lines of what keeps the object, with the names of the file
pub returns-in-Ok-noted-clause-text : goal.returns-in-Ok-noted-clause-text
returns-in-Ok-noted-clause-text g c =
    let left = g.R.Read.remaining c.args.reader.now in
    let heap = c.args.image.heap in
    let Is = IsReasonText c.args.address c.args.image in
    let lines = c.in-Ok-reason_lines.lines.bytes.items in
    let copied : c.heap.result.now ≡ heap = c.heap.ensures.same ∙ ap (λ (i : Image). i.heap) c.in-Ok-copy.ensures in
    text_named c.args.file.now left (program_of c.in-Ok.names) heap c.heap.result.now Is lines c.as_str.result.now _ c.in-Ok.ensures.names
    c.in-Ok-reason_lines.ensures.text copied c.as_str.ensures.value (c.in-Ok-noted.ensures (c.in-Ok.ensures.in_order tt))

-- the file of names is refused
pub returns-in-Err-clause-refused : goal.returns-in-Err-clause-refused
returns-in-Err-clause-refused g c = inr (inl c.in-Err.ensures.refused)

-- or so is what is asked of the image
pub returns-clause-refused : goal.returns-clause-refused
returns-clause-refused g c = not_names (RefusesNamesOf c.args.file.now (g.R.Read.remaining c.args.reader.now) None c.in-Err-reason_lines.refusal) c.in-Err-reason_lines.ensures.refused
