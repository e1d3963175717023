use Rattle.std.proofs.Common.{◌≡◌, map}
use Rattle.g1_layout.specs.Plan.{laid_before}
use Rattle.g1_copy.specs.Links.{cards_by_region, copied_between}
use Rattle.g1_copy.proofs.copied_cards.cards_of_runs.Given as goal

abbrev pub invariant-loop-number : goal.invariant-loop-number
invariant-loop-number l = map (λ s. s.items) l.lists.items
    ≡ cards_by_region l.copied.heap (copied_between l.copied.heap l.copied.plan.survivors (laid_before l.copied.heap l.copied.plan.survivors l.from) (laid_before l.copied.heap l.copied.plan.survivors l.number))
