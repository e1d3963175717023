use Rattle.std.proofs.Common.{◌≡◌, not, filter}
use Rattle.std.specs.List.{range_with_len}
use Rattle.g1_words.specs.Heap.{kind, is_free}
use Rattle.g1_mark.proofs.bytes.used_regions.Given as goal

abbrev pub invariant-loop-region : goal.invariant-loop-region
invariant-loop-region l = l.used.items ≡ filter (λ r. not (is_free (kind l.heap r))) (range_with_len 0 l.region)
