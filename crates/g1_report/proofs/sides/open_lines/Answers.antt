use Rattle.std.proofs.Common.{refl}
use Rattle.g1_text.proofs.OneGraph.{texts_say_one_graph}
use Rattle.g1_report.proofs.Opening.{labels_in_order, holders_in_order, faulty, shown}
use Rattle.g1_report.proofs.sides.open_lines.Goals as goal

pub returns-clause-in_order : goal.returns-clause-in_order
returns-clause-in_order c =
    let r = c.in_ok-graph.graph in
    let h = c.in_ok-graph.ensures.holds in
    let l = h.2.listed in
    record {
      objects = labels_in_order h.0 h.2.ats r.names.items _ _ l;
      roots = holders_in_order r.root_names.items c.in_ok-graph.ensures.says.0.roots c.in_ok-graph.ensures.says.2;
      stale = c.in_ok-stale.ensures.in_order;
    }

pub returns-clause-shows : goal.returns-clause-shows
returns-clause-shows c =
    let r = c.in_ok-graph.graph in
    let says = c.in_ok-graph.ensures.says in
    let h = c.in_ok-graph.ensures.holds in
    shown c.args.lines.now c.as_slice.result.now r _ h.0 says.0 (texts_say_one_graph c.args.lines.now h.0 says.0 h.1 says.1) h.1 h.2 says.2
    c.as_slice.ensures.value c.in-Ok.ensures.ok refl refl c.in_ok-stale.ensures.none

pub returns-in-Err-clause-no_text : goal.returns-in-Err-clause-no_text
returns-in-Err-clause-no_text c =
    let h = c.in_ok-graph.ensures.holds in
    faulty c.args.lines.now c.as_slice.result.now c.in_ok-graph.graph h.0 c.in-Err.fault h.1 h.2 c.as_slice.ensures.value c.in-Err.ensures.err
