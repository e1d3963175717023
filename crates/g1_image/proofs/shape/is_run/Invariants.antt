use Rattle.std.proofs.Common.{◌≡◌, ◌≤◌, ◌<◌, ◌+◌, ◌-◌, ℕ}
use Rattle.g1_words.specs.Heap.{region}
use Rattle.g1_words.specs.declared.region.Kind.TheVariants.{Continuation}
use Rattle.g1_image.proofs.shape.is_run.Given as goal

abbrev pub invariant-loop-geometry : goal.invariant-loop-geometry
invariant-loop-geometry l = (0 < l.i) × (l.i ≤ l.regions) × ((q : ℕ) → 0 < q → q < l.i → (l.r + q < l.draft.geometry.n) × ((region l.draft (l.r + q)).kind ≡ Continuation))

abbrev pub decreases-loop-geometry : goal.decreases-loop-geometry
decreases-loop-geometry l = l.regions - l.i
