use Rattle.g1_answers.proofs.Remade.{image_sent, image_cut}
use Rattle.g1_answers.proofs.rewriting.send_image.Goals as goal

pub returns-in-Ok : goal.returns-in-Ok
returns-in-Ok g c = image_sent c.args.image.now _ _ _ c.in-Ok.field-0 c.flush.result c.in-Ok.ensures.text c.flush.ensures.written c.flush.ensures.fault

pub returns-in-Err : goal.returns-in-Err
returns-in-Err g c = image_cut c.args.image.now _ _ c.in-Err.fault c.in-Err.ensures.text
