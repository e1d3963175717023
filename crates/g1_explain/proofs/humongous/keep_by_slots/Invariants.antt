use Rattle.std.proofs.Common.{flat_map, slice_index}
use Rattle.std.specs.List.{range_with_len}
use Rattle.g1_explain.specs.declared.finder.Finder.TheVariants.{Object as Slot}
use Rattle.g1_explain.specs.Finders.{lead}
use Rattle.g1_explain.specs.Keepers.{AreKept, leads_in}
use Rattle.g1_explain.proofs.humongous.keep_by_slots.Given as goal

abbrev pub invariant-loop-slot : goal.invariant-loop-slot
invariant-loop-slot l = AreKept (leads_in l.heap (flat_map (λ s. lead (Slot l.index l.at s) (slice_index l.slots s)) (range_with_len 0 l.slot))) l.initial.keepers l.keepers
