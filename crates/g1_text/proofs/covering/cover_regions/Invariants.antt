use Rattle.std.proofs.Common.{◌≡◌, map, flat_map, take}
use Rattle.g1_words.specs.Heap.{slots}
use Rattle.g1_image.specs.Image.{Image, used_words}
use Rattle.g1_rem.specs.Marks.{objects_from}
use Rattle.g1_text.specs.Covered.{LeadEach}
use Rattle.g1_text.proofs.Remembering.{unused_in}
use Rattle.g1_text.proofs.covering.cover_regions.Given as goal

abbrev pub invariant-loop-number : goal.invariant-loop-number
invariant-loop-number l =
    (i : Image) → l.fn.geometry ≡ i.heap.geometry → l.regions ≡ i.heap.regions → l.words ≡ used_words i.heap.geometry.w i.heap.regions i.heap.words
    → LeadEach i (flat_map slots (objects_from i.heap 0)) (map (λ s. s.items) l.fn.remembered.items)
    → (l.unused ≡ unused_in i.heap.geometry.w (take l.number i.heap.regions)) × LeadEach i (flat_map slots (objects_from i.heap l.number)) (map (λ s. s.items) l.remembered.items)
