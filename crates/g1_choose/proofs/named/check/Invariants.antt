use Rattle.std.proofs.Common.{◌≡◌, ℕ, ◌<◌, false, length, take, slice_index_or, Contains, IsTrue}
use Rattle.std.specs.Prelude.{◌↔◌}
use Rattle.g1_choose.specs.Named.{IsBadAt}
use Rattle.g1_choose.proofs.named.check.Given as goal

abbrev pub invariant-loop-region : goal.invariant-loop-region
invariant-loop-region l = record {
  count : length l.named ≡ l.heap.geometry.n;
  marks : (r : ℕ) → r < l.heap.geometry.n → IsTrue (slice_index_or l.named r false) ↔ Contains (take l.region-index l.list) r;
  good : (j : ℕ) → j < l.region-index → IsBadAt l.heap l.list j → ⊥;
}
