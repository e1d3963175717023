use Rattle.std.proofs.Common.{◌≡◌, ◌<◌, ◌-◌, map, flat_map}
use Rattle.g1_words.specs.Heap.{region, slots}
use Rattle.g1_image.specs.Image.{Image}
use Rattle.g1_rem.specs.Marks.{objects_from}
use Rattle.g1_text.specs.Covered.{LeadEach, HasWords}
use Rattle.g1_text.proofs.Remembering.{TakingEach}
use Rattle.g1_text.proofs.covering.cover_region.Given as goal

abbrev pub invariant-loop-at : goal.invariant-loop-at
invariant-loop-at l =
    (i : Image) → l.fn.geometry ≡ i.heap.geometry → l.fn.number < i.heap.geometry.n → l.fn.region ≡ region i.heap l.fn.number → HasWords i.heap l.fn.number l.words l.fn.unused
    → LeadEach i (flat_map slots (objects_from i.heap l.fn.number)) (map (λ s. s.items) l.fn.remembered.items)
    → TakingEach i l.fn.number l.at l.end (map (λ s. s.items) l.remembered.items)

abbrev pub decreases-loop-at : goal.decreases-loop-at
decreases-loop-at l = l.end - l.at
