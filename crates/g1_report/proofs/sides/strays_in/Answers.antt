use Rattle.g1_report.proofs.InOrder.{counted, none_counted, names_in_order}
use Rattle.g1_report.proofs.sides.strays_in.Goals as goal

pub returns-clause-in_order : goal.returns-clause-in_order
returns-clause-in_order c =
    names_in_order c.add_strays-2.new.names.items
    (counted c.add_strays-2.new.names.items (c.in_ok-add_strays-2.ensures (c.in_ok-add_strays.ensures (none_counted c.new-names.result.items c.new-names.ensures.items))))
