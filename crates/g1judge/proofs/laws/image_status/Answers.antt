use Rattle.g1judge.proofs.Statuses.{image_status}
use Rattle.g1judge.proofs.laws.image_status.Goals as goal

pub returns : goal.returns
returns c = image_status c.one_text.ensures.image c.one_fault.ensures.none_of_text
