use Rattle.g1judge.proofs.Statuses.{cover_status}
use Rattle.g1judge.proofs.laws.cover_status.Goals as goal

pub returns : goal.returns
returns c = cover_status c.one_text.ensures.image c.one_fault.ensures.none_of_text
