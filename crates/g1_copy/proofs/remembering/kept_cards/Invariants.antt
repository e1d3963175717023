use Rattle.std.proofs.Common.{◌≡◌, filter, take}
use Rattle.g1_copy.specs.Remembered.{stays}
use Rattle.g1_copy.proofs.remembering.kept_cards.Given as goal

abbrev pub invariant-loop-card : goal.invariant-loop-card
invariant-loop-card l = l.kept.items ≡ filter (stays l.heap l.fates) (take l.card-index l.cards)
