use Rattle.std.proofs.Common.{◌≡◌, ◌<◌, ◌≤◌, ◌++◌, ℕ, length, map}
use Rattle.g1_copy.specs.Remembered.{cards_at}
use Rattle.g1_copy.proofs.copied_cards.append_each.Given as goal

abbrev pub invariant-loop-r : goal.invariant-loop-r
invariant-loop-r l = record {
  same : length l.lists ≡ length l.initial.lists;
  done : (k : ℕ) → k < l.r → cards_at (map (λ s. s.items) l.lists) k ≡ cards_at (map (λ s. s.items) l.initial.lists) k ++ cards_at (map (λ s. s.items) l.more) k;
  rest : (k : ℕ) → l.r ≤ k → cards_at (map (λ s. s.items) l.lists) k ≡ cards_at (map (λ s. s.items) l.initial.lists) k;
}
