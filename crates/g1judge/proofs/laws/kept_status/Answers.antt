use Rattle.g1judge.proofs.Statuses.{kept_status}
use Rattle.g1judge.proofs.laws.kept_status.Goals as goal

pub returns : goal.returns
returns c = kept_status c.one_text.ensures.image c.one_fault.ensures.none_of_text c.accepted_or_bad.ensures.not_both
