use Rattle.g1judge.proofs.Statuses.{pair_status}
use Rattle.g1judge.proofs.laws.pair_status.Goals as goal

pub returns : goal.returns
returns c = pair_status c.one_text.ensures.image c.one_fault.ensures.none_of_text c.never_both.ensures
