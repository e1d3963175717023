use Rattle.std.proofs.Common.{◌≡◌, ◌-◌, ◌≤◌, ◌++◌}
use Rattle.std.specs.List.{range_with_len}
use Rattle.g1heap_cli.proofs.young.push_cards.Given as goal

abbrev pub invariant-loop-card : goal.invariant-loop-card
invariant-loop-card l = record {
  order : l.first ≤ l.card;
  cards : l.cards.items ≡ l.fn.cards.items ++ range_with_len l.first (l.card - l.first);
}
