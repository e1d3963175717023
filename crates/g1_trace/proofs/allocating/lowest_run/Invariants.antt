use Rattle.std.proofs.Common.{◌≡◌, ◌+◌, ◌<◌, ◌≤◌, ℕ, false}
use Rattle.g1_words.specs.Heap.{kind}
use Rattle.g1_words.specs.declared.region.Kind.TheVariants.{Free}
use Rattle.g1_trace.specs.Mutator.{is_free_run}
use Rattle.g1_trace.proofs.allocating.lowest_run.Given as goal

-- the regions from the first on are free, and too few; no run begins below
abbrev pub invariant-loop-r : goal.invariant-loop-r
invariant-loop-r l = record {
  below : l.first ≤ l.r;
  few : l.r < l.first + l.count;
  free : (q : ℕ) → l.first ≤ q → q < l.r → kind l.heap q ≡ Free;
  none : (q : ℕ) → q < l.first → is_free_run l.heap l.count q ≡ false;
}
