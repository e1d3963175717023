use Rattle.std.proofs.Common.{◌<◌, ℕ}
use Rattle.g1_kept.specs.Keeps.{KeepsRegion}
use Rattle.g1_kept.proofs.tables.compare_tables.Given as goal

abbrev pub invariant-loop-number : goal.invariant-loop-number
invariant-loop-number l = (r : ℕ) → r < l.number → KeepsRegion l.pause.fill l.pause.set.now l.pause.heaps.before.now l.pause.heaps.after.now r
