-- Sizes that are accepted are within the bounds.
use Rattle.std.proofs.Common.{ℕ}
use Rattle.g1_words.specs.Geometry.{IsWithin, IsWithinBounds}
use Rattle.g1_words.specs.declared.limits.Limits.{Limits}
use Rattle.g1_words.specs.declared.limits.Limits.TheVariants.{Specified, Wide}

-- sizes within any limits are within the bounds
pub in_bounds : (limits : Limits) (w k n : ℕ) → IsWithin limits w k n → IsWithinBounds w k n
in_bounds Specified w k n within = within.bounds
in_bounds Wide w k n within = within
