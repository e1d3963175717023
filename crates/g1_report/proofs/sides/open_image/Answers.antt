use Rattle.g1_report.proofs.InOrder.{of_none}
use Rattle.g1_report.proofs.sides.open_image.Goals as goal

pub returns-clause-in_order : goal.returns-clause-in_order
returns-clause-in_order c = record { objects = tt; roots = of_none c.new.result.items c.new.ensures.items; stale = tt }
