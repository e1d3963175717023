use Rattle.std.proofs.Common.{◌≡◌, ◌≤◌, ◌++◌, ℕ, List, All, map}
use Rattle.g1_copy.specs.Links.{cards_by_region}
use Rattle.g1_copy.proofs.CopiedWords.{first_slots}
use Rattle.g1_copy.proofs.copied_cards.add_object.Given as goal

abbrev pub invariant-loop-k : goal.invariant-loop-k
invariant-loop-k l = (before : List (ℕ × ℕ)) → All (λ x. x.0 ≤ l.place) before → map (λ s. s.items) l.initial.lists ≡ cards_by_region l.heap before
    → map (λ s. s.items) l.lists ≡ cards_by_region l.heap (before ++ first_slots l.words l.at l.place l.k)
