use Rattle.std.proofs.Common.{◌≡◌, ◌∙◌, inl, inr, ap}
use Rattle.std.specs.Prelude.{None}
use Rattle.g1_image.specs.Image.{Image}
use Rattle.g1_report.specs.Program.{program_of}
use Rattle.g1heap_cli.specs.Texts.{IsPauseText, form_of}
use Rattle.g1heap_cli.proofs.NamesRead.{given_named, given_refused, text_named}
use Rattle.g1heap_cli.proofs.explaining.explain_image.Goals as goal

-- the lines of the pause, with the names of the file
pub returns-in-Ok-noted-clause-text : goal.returns-in-Ok-noted-clause-text
returns-in-Ok-noted-clause-text g c =
    let s = c.args.settings.now in
    let left = g.R.Read.remaining c.args.reader.now in
    let heap = c.args.image.heap in
    let Is = IsPauseText s.cost s.choice (form_of c.args.request.now.map) c.args.image c.in-Ok-pause_lines.status in
    let lines = c.in-Ok-pause_lines.lines.bytes.items in
    let lent = c.as_str-in-Ok-pause_lines.result.now in
    let copied : c.heap.result.now ≡ heap = c.heap.ensures.same ∙ ap (λ (i : Image). i.heap) c.in-Ok-copy.ensures in
    given_named c.args.request.now.names c.in-Some.file c.as_str.result.now left c.in-Some.is c.as_str.ensures.value heap Is _
    (text_named c.as_str.result.now left (program_of c.in-Ok.names) heap c.heap.result.now Is lines lent _ c.in-Ok.ensures.names c.in-Ok-pause_lines.ensures.text copied
    c.as_str-in-Ok-pause_lines.ensures.value (c.in-Ok-noted.ensures (c.in-Ok.ensures.in_order tt)))

-- the file of names is refused
pub returns-in-Err-clause-refused : goal.returns-in-Err-clause-refused
returns-in-Err-clause-refused g c =
    inl (given_refused c.args.request.now.names c.in-Some.file c.as_str.result.now (g.R.Read.remaining c.args.reader.now) c.in-Some.is c.as_str.ensures.value None c.in-Err.refusal c.in-Err.ensures.refused)

-- or the pause is
pub returns-clause-refused : goal.returns-clause-refused
returns-clause-refused g c = inr c.in-Err-pause_lines.ensures.refused
