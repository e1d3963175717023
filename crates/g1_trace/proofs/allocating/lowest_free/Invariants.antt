use Rattle.std.proofs.Common.{◌≡◌, ◌<◌, ℕ, false}
use Rattle.g1_trace.specs.Mutator.{is_free_region}
use Rattle.g1_trace.proofs.allocating.lowest_free.Given as goal

-- no region below was free
abbrev pub invariant-loop-r : goal.invariant-loop-r
invariant-loop-r l = (q : ℕ) → q < l.r → is_free_region l.heap q ≡ false
