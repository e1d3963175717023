use Rattle.std.proofs.Common.{◌≡◌, [], flat_map, take}
use Rattle.g1_explain.proofs.Keepers.{on_card}
use Rattle.g1_explain.proofs.humongous.card_keeper.Given as goal

abbrev pub invariant-loop-card : goal.invariant-loop-card
invariant-loop-card l = flat_map (on_card l.walkable.heap l.set l.region) (take l.card-index l.cards) ≡ []
