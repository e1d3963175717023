use Rattle.g1_rem.proofs.OneStarts.{one_starts}
use Rattle.g1_rem.proofs.laws.one_table.Goals as goal

pub returns : goal.returns
returns c = one_starts
