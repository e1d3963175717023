use Rattle.std.proofs.Common.{◌≡◌, ◌<◌, ◌≤◌, ◌+◌, ℕ, length, slice_index}
use Rattle.g1_mark.proofs.bytes.add_each.Given as goal

abbrev pub invariant-loop-index : goal.invariant-loop-index
invariant-loop-index l = record {
  same : length l.bytes.items ≡ length l.initial.bytes.items;
  done : (r : ℕ) → r < l.index → slice_index l.bytes.items r ≡ slice_index l.initial.bytes.items r + slice_index l.more r;
  rest : (r : ℕ) → l.index ≤ r → slice_index l.bytes.items r ≡ slice_index l.initial.bytes.items r;
}
