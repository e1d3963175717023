use Rattle.std.proofs.Common.{◌≢◌, ◌≤◌, ◌<◌, ℕ, ◌%◌}
use Rattle.g1_words.specs.Heap.{start}
use Rattle.g1_image.proofs.starts.marks_begin.Given as goal

abbrev pub invariant-loop-geometry : goal.invariant-loop-geometry
invariant-loop-geometry l = (l.begin ≤ l.region) × ((q : ℕ) → l.begin < q → q ≤ l.region → start l.draft q % 64 ≢ 0)

abbrev pub decreases-loop-geometry : goal.decreases-loop-geometry
decreases-loop-geometry l = l.begin
