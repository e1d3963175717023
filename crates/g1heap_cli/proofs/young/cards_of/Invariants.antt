use Rattle.std.proofs.Common.{◌≡◌, ℕ, ◌<◌, take}
use Rattle.g1heap_cli.specs.Young.{young_cards, HasRegionAt}
use Rattle.g1heap_cli.proofs.young.cards_of.Given as goal

abbrev pub invariant-loop-region : goal.invariant-loop-region
invariant-loop-region l = record {
  cards : l.cards.items ≡ young_cards l.image.heap (take l.region-index l.young);
  there : (k : ℕ) → k < l.region-index → HasRegionAt l.image l.young k;
}
