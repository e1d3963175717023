use Rattle.std.proofs.Common.{◌≢◌, ◌<◌, ◌+◌, ℕ, slice_index}
use Rattle.g1_image.specs.Image.{IsUsedCard, region_of_card}
use Rattle.g1_image.proofs.cards.is_remembered_set.Given as goal

abbrev pub invariant-loop-i : goal.invariant-loop-i
invariant-loop-i l = record {
  rising : (k : ℕ) → k + 1 < l.i → slice_index l.cards k < slice_index l.cards (k + 1);
  elsewhere : (k : ℕ) → k < l.i → IsUsedCard l.draft (slice_index l.cards k) × (region_of_card l.draft (slice_index l.cards k) ≢ l.r);
}
