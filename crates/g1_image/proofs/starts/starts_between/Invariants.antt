use Rattle.std.proofs.Common.{◌≡◌, ◌≤◌, ◌+◌, length}
use Rattle.g1_words.specs.Heap.{start}
use Rattle.g1_image.specs.Draft.{Latest, ShapedBelow}
use Rattle.g1_image.specs.Marks.{Marks, StartsBetween}
use Rattle.g1_image.proofs.starts.starts_between.Given as goal

abbrev pub invariant-loop-r : goal.invariant-loop-r
invariant-loop-r l = record {
  order : l.first ≤ l.r;
  shaped : ShapedBelow l.draft l.from → ShapedBelow l.draft l.r;
  latest : ShapedBelow l.draft l.from → Latest l.draft l.r l.first l.size;
  marks : Marks (λ k. StartsBetween l.draft l.from l.r (l.base + k)) l.marks;
  count : l.base + length l.marks ≡ start l.draft l.to;
}
