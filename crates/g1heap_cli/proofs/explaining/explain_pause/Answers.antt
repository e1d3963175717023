use Rattle.g1heap_cli.proofs.Explained.{replied}
use Rattle.g1heap_cli.proofs.Explains.{bytes_refused, image_so}
use Rattle.g1heap_cli.proofs.explaining.explain_pause.Goals as goal

pub returns-in-Ok-image-clause-text : goal.returns-in-Ok-image-clause-text
returns-in-Ok-image-clause-text g c =
    let source = c.in-Ok-find_collected.source in
    let rest = g.R.Read.remaining c.find_collected.new.reader in
    replied c.args.request.now (g.R.Read.remaining c.args.reader.now) rest c.in-Ok.settings source.image.now source.kept c.in-Ok-image.image c.explain_image.result (λ x. x.0) (λ x. x.1.bytes.items)
    c.in-Ok-find_collected.ensures.left c.in-Ok-find_collected.ensures.image c.in-Ok-find_collected.ensures.kept c.in-Ok-image.ensures.image c.in-Ok.ensures.cost c.in-Ok.ensures.choice
    c.explain_image.ensures.text

pub returns-in-Ok-image-clause-refused : goal.returns-in-Ok-image-clause-refused
returns-in-Ok-image-clause-refused g c =
    let source = c.in-Ok-find_collected.source in
    let rest = g.R.Read.remaining c.find_collected.new.reader in
    image_so c.args.request.now (g.R.Read.remaining c.args.reader.now) source.image.now source.kept c.in-Ok-find_collected.ensures.image c.in-Ok-find_collected.ensures.kept rest
    c.in-Ok-find_collected.ensures.left c.in-Ok.settings c.in-Ok.ensures.cost c.in-Ok.ensures.choice c.in-Ok-image.image c.in-Ok-image.ensures.image c.explain_image.result c.explain_image.ensures.refused

-- the bytes are no image's
pub returns-clause-refused : goal.returns-clause-refused
returns-clause-refused g c =
    let source = c.in-Ok-find_collected.source in
    bytes_refused c.args.request.now (g.R.Read.remaining c.args.reader.now) source.image.now source.kept c.in-Ok-find_collected.ensures.image c.in-Ok-find_collected.ensures.kept
    c.in-Err-image.refusal c.in-Err-image.ensures.refused
