use Rattle.std.proofs.Common.{◌⊎◌}
use Rattle.g1heap_cli.specs.Reasons.{RefusesReason, RefusesNamesBehind}
use Rattle.g1heap_cli.proofs.Whys.{kept_refused, why_refused, why_replied}
use Rattle.g1heap_cli.proofs.explaining.explain_object.Goals as goal

pub returns-in-Ok-image-clause-text : goal.returns-in-Ok-image-clause-text
returns-in-Ok-image-clause-text g c =
    let rest = g.R.Read.remaining c.find_source.new.reader in
    why_replied c.args.request.now (g.R.Read.remaining c.args.reader.now) rest c.in-Ok.ensures.left c.in-Ok.source.image.now c.in-Ok.source.kept c.in-Ok.ensures.image c.in-Ok.ensures.kept c.in-Ok-image.image
    c.in-Ok-image.ensures.image c.keeping_lines.result (λ s. s.bytes.items) c.keeping_lines.ensures.text

pub returns-in-Ok-image-clause-refused : goal.returns-in-Ok-image-clause-refused
returns-in-Ok-image-clause-refused g c =
    let rest = g.R.Read.remaining c.find_source.new.reader in
    why_refused c.args.request.now (g.R.Read.remaining c.args.reader.now) rest c.in-Ok.ensures.left c.in-Ok.source.image.now c.in-Ok.source.kept c.in-Ok.ensures.image c.in-Ok.ensures.kept c.in-Ok-image.image
    c.in-Ok-image.ensures.image c.keeping_lines.result c.keeping_lines.ensures.refused

-- the bytes are no image's
pub returns-clause-refused : goal.returns-clause-refused
returns-clause-refused g c =
    let why = c.args.request.now in
    kept_refused why.image (g.R.Read.remaining c.args.reader.now) c.in-Ok.source.image.now c.in-Ok.source.kept c.in-Ok.ensures.image c.in-Ok.ensures.kept
    (λ i e. RefusesReason why.image.name.bytes.items why.address i e ⊎ RefusesNamesBehind why.image why.names (g.R.Read.remaining c.args.reader.now) e) c.in-Err-image.refusal c.in-Err-image.ensures.refused
