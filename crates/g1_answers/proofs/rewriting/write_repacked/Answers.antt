use Rattle.std.proofs.lemmas.Result.{err_from_is_err_and}
use Rattle.g1_answers.proofs.Remade.{not_repacked, repacks}
use Rattle.g1_answers.proofs.rewriting.write_repacked.Goals as goal

pub returns-in_err-image : goal.returns-in_err-image
returns-in_err-image g c =
    let p = err_from_is_err_and c.from_residual.result c.from_residual.ensures.1 in
    rw (p.1, p.2) (not_repacked c.args.limits (g.R.Read.remaining c.args.reader.now) (g.W.Write.contents c.args.writer.now.inner) c.in_err-image.field-0.0 c.in_err-image.ensures.fault)

pub returns : goal.returns
returns g c =
    repacks c.args.limits (g.R.Read.remaining c.args.reader.now) _ _ c.in_ok-image.image c.send_image.result c.in_ok-image.ensures.image c.send_image.ensures
