use Rattle.std.proofs.Common.{◌≡◌, ◌≤◌, ◌-◌, filter, length}
use Rattle.std.specs.List.{range_with_len}
use Rattle.g1_words.specs.Lists.{has}
use Rattle.g1_rem.proofs.refining.marked_cards.Given as goal

abbrev pub invariant-cards : goal.invariant-cards
invariant-cards l = (l.cards.items ≡ filter (has l.image.log) (range_with_len 0 l.from)) × (l.from ≤ length l.dirty)

abbrev pub decreases-cards : goal.decreases-cards
decreases-cards l = length l.dirty - l.from
