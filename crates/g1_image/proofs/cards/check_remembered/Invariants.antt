use Rattle.std.proofs.Common.{◌<◌, ℕ, slice_index_or, map, []}
use Rattle.g1_image.specs.Image.{IsRememberedSet}
use Rattle.g1_image.proofs.cards.check_remembered.Given as goal

abbrev pub invariant-loop-r : goal.invariant-loop-r
invariant-loop-r l = (q : ℕ) → q < l.r → IsRememberedSet l.draft q (slice_index_or (map (λ s. s.items) l.remembered) q [])
