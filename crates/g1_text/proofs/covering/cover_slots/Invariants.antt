use Rattle.std.proofs.Common.{◌≡◌, ◌≤◌, ◌<◌, ◌+◌, ◌-◌, ◌^◌, ◌++◌, ℕ, List, map, slice_index}
use Rattle.std.specs.List.{range_with_len}
use Rattle.g1_image.specs.Image.{Image}
use Rattle.g1_text.specs.Covered.{LeadEach}
use Rattle.g1_text.proofs.covering.cover_slots.Given as goal

abbrev pub invariant-loop-slot : goal.invariant-loop-slot
invariant-loop-slot l = record {
  ahead : (i : Image) (rest : List ℕ) → l.fn.geometry ≡ i.heap.geometry → l.fn.first + l.fn.count < 2 ^ 64
      → ((p : ℕ) → l.fn.first ≤ p → p < l.fn.first + l.fn.count → slice_index l.words (p - l.fn.unused) ≡ slice_index i.heap.words p)
      → LeadEach i (range_with_len l.fn.first l.fn.count ++ rest) (map (λ s. s.items) l.fn.remembered.items)
      → LeadEach i (range_with_len l.slot (l.fn.first + l.fn.count - l.slot) ++ rest) (map (λ s. s.items) l.remembered.items);
  from : l.fn.first ≤ l.slot;
  within : l.slot ≤ l.slot-end;
}
