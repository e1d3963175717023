use Rattle.g1_text.proofs.Whole.{lines_add_up, lines_say_image}
use Rattle.g1_text.proofs.FullText.{texts_say_image}
use Rattle.g1_text.proofs.laws.full_lines_add_up.Goals as goal

pub returns-clause-image : goal.returns-clause-image
returns-clause-image c = lines_add_up

pub returns-clause-only : goal.returns-clause-only
returns-clause-only c = lines_say_image

pub returns-clause-text : goal.returns-clause-text
returns-clause-text c = texts_say_image
