use Rattle.std.proofs.Common.{◌∙◌, ap}
use Rattle.g1_claim.specs.declared.rule.Hand.{Hand}
use Rattle.g1_frontier.proofs.looking.look_again.Goals as goal

pub look_by_chunks-requires-clause-seat : goal.look_by_chunks-requires-clause-seat
look_by_chunks-requires-clause-seat g c κs within = (c.least.ensures.table, ap (λ (h : Hand). h.shares) c.least.ensures.seen ∙ c.requires.seat.1)

pub look_by_chunks-requires-clause-seen : goal.look_by_chunks-requires-clause-seen
look_by_chunks-requires-clause-seen g c κs within = c.least.ensures.own
