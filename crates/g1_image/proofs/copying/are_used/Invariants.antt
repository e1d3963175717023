use Rattle.std.proofs.Common.{ℕ, ◌<◌, slice_index}
use Rattle.g1_image.specs.Image.{IsUsedCard}
use Rattle.g1_image.proofs.copying.are_used.Given as goal

abbrev pub invariant-loop-card : goal.invariant-loop-card
invariant-loop-card l = (q : ℕ) → q < l.card-index → IsUsedCard l.heap (slice_index l.cards q)
