use Rattle.std.proofs.Common.{◌≡◌, ◌≤◌, ◌+◌, ◌-◌, length}
use Rattle.g1_image.specs.Marks.{InRow, Marked}
use Rattle.g1_image.proofs.Tiled.{Checked}
use Rattle.g1_image.proofs.shape.mark_row.Given as goal

abbrev pub invariant-loop-at : goal.invariant-loop-at
invariant-loop-at l = record {
  order : l.from ≤ l.at;
  checked : Checked l.words.items l.from l.to l.geometry.w l.at;
  count : length l.marks ≡ length l.fn.marks;
  marked : Marked (λ k. InRow l.words.items l.from l.at (l.base + k)) l.fn.marks l.marks;
}

abbrev pub decreases-loop-at : goal.decreases-loop-at
decreases-loop-at l = l.to - l.at
