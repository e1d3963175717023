use Rattle.g1_answers.proofs.Given.{run_done}
use Rattle.g1_answers.proofs.rewriting.write_paused.Goals as goal

pub returns-in-Ok : goal.returns-in-Ok
returns-in-Ok g c =
    let settings = c.args.settings.now in
    run_done c.args.limits settings.cost settings.choice _ (g.R.Read.remaining c.args.reader.now) c.new-source.ensures.left _ _ _ c.in-Ok.field-0
    c.in-Ok.ensures.answer c.flush.ensures.written c.flush.result c.flush.ensures.fault
