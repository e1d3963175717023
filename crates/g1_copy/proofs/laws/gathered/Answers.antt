use Rattle.g1_copy.proofs.GatheredLaws.{gathered_at, gathered_elsewhere}
use Rattle.g1_copy.proofs.laws.gathered.Goals as goal

pub returns-clause-places : goal.returns-clause-places
returns-clause-places c = gathered_at

pub returns-clause-elsewhere : goal.returns-clause-elsewhere
returns-clause-elsewhere c = gathered_elsewhere
