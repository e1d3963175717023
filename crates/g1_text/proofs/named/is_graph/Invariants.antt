use Rattle.std.proofs.Common.{◌↔◌}
use Rattle.g1_text.specs.Reading.{parts_of, AreGraphLines}
use Rattle.g1_text.proofs.Turns.{parts_left, size_left}
use Rattle.g1_text.proofs.named.is_graph.Given as goal

abbrev pub decreases-lines : goal.decreases-lines
decreases-lines l = size_left l.rest

abbrev pub invariant-lines : goal.invariant-lines
invariant-lines l = AreGraphLines (parts_left l.rest) ↔ AreGraphLines (parts_of l.fn.text)
