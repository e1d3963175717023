use Rattle.std.proofs.Common.{◌≡◌, ◌++◌, take, map}
use Rattle.g1_frontier.specs.declared.item.Item.TheVariants.{Card}
use Rattle.g1_frontier.specs.Items.{root_items}
use Rattle.g1_frontier.proofs.survivors.first_items.Given as goal

abbrev pub invariant-loop-index : goal.invariant-loop-index
invariant-loop-index l = l.items.items ≡ root_items l.index

abbrev pub invariant-loop-card : goal.invariant-loop-card
invariant-loop-card l = l.items.items ≡ root_items l.roots ++ map (λ c. Card c l.roots) (take l.card-index l.cards)
