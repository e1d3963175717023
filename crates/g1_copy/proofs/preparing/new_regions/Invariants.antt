use Rattle.std.proofs.Common.{◌≡◌, map, take}
use Rattle.g1_layout.specs.declared.plan.Run.{Run}
use Rattle.g1_words.specs.Heap.{region, regions}
use Rattle.g1_copy.specs.Fates.{fate_at, region_by_fate}
use Rattle.g1_copy.proofs.preparing.new_regions.Given as goal

abbrev pub invariant-loop-r : goal.invariant-loop-r
invariant-loop-r l = (u : Run) → l.regions.items ≡ take l.r (map (λ r. region_by_fate l.plan.runs u (fate_at l.fates r) (region l.heap r)) (regions l.heap))
