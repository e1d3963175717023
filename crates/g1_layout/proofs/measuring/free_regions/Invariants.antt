use Rattle.std.proofs.Common.{◌≡◌, filter}
use Rattle.std.specs.List.{range_with_len}
use Rattle.g1_words.specs.Heap.{is_free, kind}
use Rattle.g1_layout.proofs.measuring.free_regions.Given as goal

abbrev pub invariant-loop-r : goal.invariant-loop-r
invariant-loop-r l = l.free.items ≡ filter (λ r. is_free (kind l.heap r)) (range_with_len 0 l.r)
