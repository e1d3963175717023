use Rattle.std.proofs.Common.{◌≢◌, ◌≤◌, ◌<◌, ℕ}
use Rattle.g1_words.specs.Heap.{region}
use Rattle.g1_words.specs.declared.region.Kind.TheVariants.{HumongousFirst}
use Rattle.g1_image.proofs.starts.latest.Given as goal

abbrev pub invariant-loop-first : goal.invariant-loop-first
invariant-loop-first l = (l.first ≤ l.r) × ((q : ℕ) → l.first ≤ q → q < l.r → (region l.draft q).kind ≢ HumongousFirst)

abbrev pub decreases-loop-first : goal.decreases-loop-first
decreases-loop-first l = l.first
