use Rattle.std.proofs.Common.{◌≡◌, flat_map, slice_index}
use Rattle.std.specs.List.{range_with_len}
use Rattle.g1_explain.specs.declared.finder.Finder.TheVariants.{Object as Slot}
use Rattle.g1_explain.specs.Finders.{lead}
use Rattle.g1_explain.specs.Searched.{met}
use Rattle.g1_explain.proofs.finders.meet_slots.Given as goal

abbrev pub invariant-loop-slot : goal.invariant-loop-slot
invariant-loop-slot l = l.finders.items ≡ met l.found l.initial.finders.items (flat_map (λ s. lead (Slot l.index l.at s) (slice_index l.slots s)) (range_with_len 0 l.slot))
