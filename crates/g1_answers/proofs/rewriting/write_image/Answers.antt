use Rattle.std.proofs.lemmas.Result.{err_from_is_err_and}
use Rattle.g1_answers.proofs.Remade.{no_new_image, made_again, made_by_pause}
use Rattle.g1_answers.proofs.rewriting.write_image.Goals as goal

pub returns-in_err-settings : goal.returns-in_err-settings
returns-in_err-settings g c =
    let p = err_from_is_err_and c.from_residual.result c.from_residual.ensures.1 in
    rw (p.1, p.2) (no_new_image c.args.limits c.args.wanted.now (g.R.Read.remaining c.args.reader.now) (g.W.Write.contents c.args.writer.now.inner) c.in_err-settings.field-0.0 c.in_err-settings.ensures.refused)

pub returns-in-Repacked : goal.returns-in-Repacked
returns-in-Repacked g c =
    made_again c.args.limits c.args.wanted.now (g.R.Read.remaining c.args.reader.now) (g.W.Write.contents c.args.writer.now.inner) c.in_ok-settings.ensures.taken
    (g.W.Write.contents c.write_repacked.new.writer.inner) c.write_repacked.result _ c.in-Repacked.is c.write_repacked.ensures

pub returns : goal.returns
returns g c =
    made_by_pause c.args.limits c.args.wanted.now (g.R.Read.remaining c.args.reader.now) (g.W.Write.contents c.args.writer.now.inner) c.in_ok-settings.ensures.taken
    (g.W.Write.contents c.write_paused.new.writer.inner) c.write_paused.result _ c.in_ok-settings.settings c.in-Paused.is c.in_ok-settings.ensures.settings c.write_paused.ensures
