-- What the allocation of objects does to the table of regions, told by the width of a region alone.
use Rattle.std.specs.Prelude.{ℕ, suc, List, [], None, Some, ◌+◌, ◌*◌, ◌^◌, map, length, slice_set, nat_le, nat_lt, ◌&&◌, if◌then◌else◌}
use Rattle.std.specs.List.{range_with_len}
use Rattle.g1_words.specs.declared.region.Region.{Region}
use Rattle.g1_words.specs.Heap.{Heap, region, end}
use Rattle.g1_trace.specs.Mutator.{run_length, run_region, grown}

-- a heap of which no more is known than the width and the table of its regions
abbrev pub table_heap : ℕ → List Region → Heap
table_heap w regions = record { geometry = record { w = w; k = 0; n = length regions }; words = []; regions = regions; roots = []; current = None }

-- the table after the first m regions of its run were taken
abbrev pub run_taken : ℕ → List Region → ℕ → ℕ → ℕ → List Region
run_taken w regions r size m =
    map (λ q. if nat_le r q && nat_lt q (r + m) then run_region (table_heap w regions) r size q else region (table_heap w regions) q) (range_with_len 0 (length regions))

-- the heap with a new ordinary object at the top of region r
abbrev pub ordinary_heap : Heap → ℕ → ℕ → ℕ → ℕ → Heap
ordinary_heap h r size refs root = record {
  geometry = h.geometry;
  words = slice_set h.words (end h r) (size * 2 ^ 32 + refs);
  regions = slice_set h.regions r (grown h r size);
  roots = slice_set h.roots root (suc (end h r));
  current = Some r;
}

-- the heap with a new humongous object from region r on
abbrev pub humongous_heap : Heap → ℕ → ℕ → ℕ → ℕ → Heap
humongous_heap h r size refs root = record {
  geometry = h.geometry;
  words = slice_set h.words (end h r) (size * 2 ^ 32 + refs);
  regions = run_taken h.geometry.w h.regions r size (run_length h size);
  roots = slice_set h.roots root (suc (end h r));
  current = h.current;
}
