use Rattle.std.proofs.Common.{◌≡◌, ◌≤◌, length, filter}
use Rattle.std.specs.List.{range_with_len}
use Rattle.g1_words.specs.Heap.{is_free, kind}
use Rattle.g1_layout.proofs.measuring.free_count.Given as goal

abbrev pub invariant-loop-r : goal.invariant-loop-r
invariant-loop-r l = record { counted : l.count ≡ length (filter (λ r. is_free (kind l.heap r)) (range_with_len 0 l.r)); few : l.count ≤ l.r }
