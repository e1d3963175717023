use Rattle.std.proofs.Common.{◌≡◌, take}
use Rattle.g1_image.specs.Dirty.{with_dirty_cards}
use Rattle.g1_image.proofs.copying.put_cards.Given as goal

abbrev pub invariant-loop-card : goal.invariant-loop-card
invariant-loop-card l = l.log.keys ≡ with_dirty_cards l.initial.log.keys (take l.card-index l.cards)
