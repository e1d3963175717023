use Rattle.std.proofs.lemmas.Result.{err_from_is_err_and}
use Rattle.g1_answers.proofs.Answered.{no_settings, no_image, answer_ok, answer_err}
use Rattle.g1_answers.proofs.answering.answer.Goals as goal

pub returns-in_err-settings-clause-fault : goal.returns-in_err-settings-clause-fault
returns-in_err-settings-clause-fault g c =
    let p = err_from_is_err_and c.from_residual.result c.from_residual.ensures.1 in
    rw (p.1, p.2) (no_settings c.args.limits c.args.question (g.R.Read.remaining c.args.reader.now) c.in_err-settings.field-0.0 c.in_err-settings.ensures.refused)

pub returns-in_err-image-clause-fault : goal.returns-in_err-image-clause-fault
returns-in_err-image-clause-fault g c =
    let p = err_from_is_err_and c.from_residual-in_err-image.result c.from_residual-in_err-image.ensures.1 in
    rw (p.1, p.2) (no_image c.args.limits c.args.question (g.R.Read.remaining c.args.reader.now) c.in_ok-settings.ensures.taken c.in_err-image.field-0.0 c.in_err-image.ensures.fault)

pub returns-clause-text : goal.returns-clause-text
returns-clause-text g c =
    answer_ok c.args.limits c.args.question (g.R.Read.remaining c.args.reader.now) c.in_ok-settings.ensures.taken c.in_ok-image.image c.in_ok-image.ensures.image
    c.answer_of.result (λ v. v.items) c.answer_of.ensures.text

pub returns-clause-fault : goal.returns-clause-fault
returns-clause-fault g c =
    answer_err c.args.limits c.args.question (g.R.Read.remaining c.args.reader.now) c.in_ok-settings.ensures.taken c.in_ok-image.image c.in_ok-image.ensures.image
    c.answer_of.result c.answer_of.ensures.fault
