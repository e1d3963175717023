use Rattle.std.proofs.Common.{◌≡◌, ◌≤◌, ◌-◌, filter, length}
use Rattle.std.specs.List.{range_with_len}
use Rattle.g1_rem.specs.EntryCards.{is_left}
use Rattle.g1_rem.proofs.entry_cards.left_over.Given as goal

abbrev pub invariant-cards : goal.invariant-cards
invariant-cards l = (l.left.items ≡ filter (is_left l.heap l.cards l.regions) (range_with_len 0 l.from)) × (l.from ≤ length l.cards)

abbrev pub decreases-cards : goal.decreases-cards
decreases-cards l = length l.cards - l.from
