use Rattle.std.proofs.Common.{◌≤◌, ◌-◌}
use Rattle.g1_image.specs.Strays.{SlotsBetween}
use Rattle.g1_image.proofs.strays.first_between.Given as goal

abbrev pub invariant-loop-at : goal.invariant-loop-at
invariant-loop-at l = SlotsBetween l.draft l.from l.at × (l.from ≤ l.at)

abbrev pub decreases-loop-at : goal.decreases-loop-at
decreases-loop-at l = l.to - l.at
