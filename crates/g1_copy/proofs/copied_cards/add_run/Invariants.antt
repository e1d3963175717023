use Rattle.std.proofs.Common.{◌≡◌, ◌≤◌, ℕ, map}
use Rattle.g1_copy.specs.Links.{cards_by_region, copied_between}
use Rattle.g1_copy.proofs.copied_cards.add_run.Given as goal

abbrev pub invariant-loop-i : goal.invariant-loop-i
invariant-loop-i l = (b : ℕ) → b ≤ l.run.from → map (λ s. s.items) l.initial.lists ≡ cards_by_region l.moving.heap (copied_between l.moving.heap l.moving.plan.survivors b l.run.from)
    → map (λ s. s.items) l.lists ≡ cards_by_region l.moving.heap (copied_between l.moving.heap l.moving.plan.survivors b l.i)
