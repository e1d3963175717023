use Rattle.std.proofs.Common.{flat_map}
use Rattle.g1_words.specs.Heap.{slots}
use Rattle.g1_rem.specs.Marks.{objects_from}
use Rattle.g1_rem.specs.Ahead.{LeadAhead}
use Rattle.g1_rem.proofs.entries.cards_into_region.Given as goal

abbrev pub invariant-loop-other : goal.invariant-loop-other
invariant-loop-other l = LeadAhead l.image l.region (flat_map slots (objects_from l.image.heap l.other)) l.cards.items
