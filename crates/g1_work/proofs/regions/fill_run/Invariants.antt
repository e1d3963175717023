use Rattle.std.proofs.Common.{◌≡◌, ℕ, ◌+◌, ◌<◌, ◌≤◌}
use Rattle.g1_work.specs.Regions.{slice_of}
use Rattle.g1_work.proofs.regions.fill_run.Given as goal

abbrev pub invariant-loop-k : goal.invariant-loop-k
invariant-loop-k g l = record {
  done : (j : ℕ) → j < l.k → g.F.Fill.fills l.fill (l.first + j) (slice_of l.width j l.initial.words) (slice_of l.width j l.words);
  rest : (j : ℕ) → l.k ≤ j → j < l.count → slice_of l.width j l.words ≡ slice_of l.width j l.initial.words;
}
