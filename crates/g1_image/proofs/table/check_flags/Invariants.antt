use Rattle.std.proofs.Common.{◌<◌, ℕ}
use Rattle.g1_image.specs.Faults.{HasKnownFlags}
use Rattle.g1_image.proofs.table.check_flags.Given as goal

abbrev pub invariant-loop-r : goal.invariant-loop-r
invariant-loop-r l = (q : ℕ) → q < l.r → HasKnownFlags l.table q
