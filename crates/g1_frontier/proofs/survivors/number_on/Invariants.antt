use Rattle.std.proofs.Common.{◌≡◌, ◌+◌, ◌++◌, ℕ, take, drop, length, sum_by}
use Rattle.g1_frontier.specs.Items.{numbered_on}
use Rattle.g1_frontier.proofs.survivors.number_on.Given as goal

abbrev pub invariant-loop-index : goal.invariant-loop-index
invariant-loop-index l = record {
  counts : l.counts.items ≡ numbered_on l.base (take l.index l.initial.counts.items) ++ drop l.index l.initial.counts.items;
  long : length l.counts.items ≡ length l.initial.counts.items;
  next : l.next ≡ l.base + sum_by (λ (n : ℕ). n) (take l.index l.initial.counts.items);
}
