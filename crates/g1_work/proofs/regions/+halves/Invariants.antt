use Rattle.std.proofs.Common.{◌+◌, ◌*◌, ◌-◌}
use Rattle.g1_work.proofs.regions.+halves.Given as goal

abbrev pub decreases-fill_both : goal.decreases-fill_both
decreases-fill_both g l = 4 * (l.front.runs + l.back.runs) - 1

abbrev pub decreases-fill_both-fill_back : goal.decreases-fill_both-fill_back
decreases-fill_both-fill_back g l = 4 * l.back.runs + 1

abbrev pub decreases-fill_both-fill_front : goal.decreases-fill_both-fill_front
decreases-fill_both-fill_front g l = 4 * l.front.runs + 1

abbrev pub decreases-fill_span : goal.decreases-fill_span
decreases-fill_span g l = 4 * l.span.runs
