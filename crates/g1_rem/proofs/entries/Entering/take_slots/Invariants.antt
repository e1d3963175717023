use Rattle.std.proofs.Common.{◌≤◌, ◌-◌, ◌++◌, ℕ, List}
use Rattle.std.specs.List.{range_with_len}
use Rattle.g1_rem.specs.Ahead.{LeadAhead}
use Rattle.g1_rem.proofs.entries.Entering.take_slots.Given as goal

abbrev pub invariant-loop-slot : goal.invariant-loop-slot
invariant-loop-slot l = record {
  ahead : (rest : List ℕ) → LeadAhead l.self.image.now l.self.region (range_with_len l.from (l.to - l.from) ++ rest) l.initial.cards.items
      → LeadAhead l.self.image.now l.self.region (range_with_len l.slot (l.to - l.slot) ++ rest) l.cards.items;
  within : l.slot ≤ l.to;
}
