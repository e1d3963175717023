use Rattle.g1_command.proofs.Delivered.{flushed}
use Rattle.g1_answers.proofs.sending.send_text.Goals as goal

pub returns-in-Ok-clause-text : goal.returns-in-Ok-clause-text
returns-in-Ok-clause-text g c =
    flushed c.args.text.now _ _ _ c.flush.result c.in-Ok.ensures.text c.flush.ensures.written
