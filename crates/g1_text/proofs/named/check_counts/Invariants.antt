use Rattle.std.proofs.Common.{◌<◌, ◌^◌, length, take}
use Rattle.std.specs.Prelude.{All}
use Rattle.g1_text.proofs.named.check_counts.Given as goal

abbrev pub invariant-loop-cards : goal.invariant-loop-cards
invariant-loop-cards l = All (λ cards. length cards.items < 2 ^ 32) (take l.cards-index l.remembered)
