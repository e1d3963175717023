use Rattle.g1_report.proofs.InOrder.{of_none, names_in_order}
use Rattle.g1_report.proofs.sides.open_stale.Goals as goal

pub returns-clause-in_order : goal.returns-clause-in_order
returns-clause-in_order c = record {
  objects = c.open_image-side.ensures.in_order.objects;
  roots = c.open_image-side.ensures.in_order.roots;
  stale = names_in_order c.new.result.items (of_none c.new.result.items c.new.ensures.items);
}
