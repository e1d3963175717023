use Rattle.std.proofs.lemmas.Result.{IfOk-weaker}
use Rattle.g1heap_cli.specs.Texts.{IsReasonText}
use Rattle.g1heap_cli.proofs.NamesRead.{given_named, given_or}
use Rattle.g1heap_cli.proofs.explaining.keeping_lines.Goals as goal

-- the file of names is given
pub returns-in-Some-clause-text : goal.returns-in-Some-clause-text
returns-in-Some-clause-text g c =
    let why = c.args.request.now in
    let left = g.R.Read.remaining c.args.reader.now in
    let Is = IsReasonText why.address c.args.image in
    IfOk-weaker c.named_lines.result _ _ (λ s t. given_named why.names c.in-Some.file c.as_str.result.now left c.in-Some.is c.as_str.ensures.value c.args.image.heap Is s.bytes.items t) c.named_lines.ensures.text

-- the file of names is refused, or what is asked of the image
pub returns-in-Some-clause-refused : goal.returns-in-Some-clause-refused
returns-in-Some-clause-refused g c =
    given_or c.args.request.now.names c.in-Some.file c.as_str.result.now (g.R.Read.remaining c.args.reader.now) c.in-Some.is c.as_str.ensures.value _ _ c.named_lines.result c.named_lines.ensures.refused
