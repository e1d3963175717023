use Rattle.std.proofs.Common.{vec_len}
use Rattle.g1_work.proofs.Gathering.{IsPartway}
use Rattle.g1_work.proofs.gather.gather.Given as goal

abbrev pub invariant-loop-found : goal.invariant-loop-found
invariant-loop-found g l = IsPartway l.dealer l.fn.results.items l.results.items l.gathered

abbrev pub decreases-loop-found : goal.decreases-loop-found
decreases-loop-found g l = vec_len l.results
