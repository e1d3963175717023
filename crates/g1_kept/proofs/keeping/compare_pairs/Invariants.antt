use Rattle.std.proofs.Common.{◌≤◌, ◌+◌, ◌-◌, suc, length}
use Rattle.g1_kept.specs.Walk.{HasMorePairs, ComparesPairs}
use Rattle.g1_kept.specs.Pause.{IsWalkIn, SearchesIn}
use Rattle.g1_kept.proofs.keeping.compare_pairs.Given as goal

abbrev pub invariant-loop-place : goal.invariant-loop-place
invariant-loop-place l = record {
  walk : IsWalkIn l.pause l.pairs;
  grown : HasMorePairs l.initial.pairs l.pairs;
  compared : ComparesPairs l.pause.set.now l.pause.heaps.before.now l.pause.heaps.after.now l.pairs l.place;
  within : l.place ≤ length l.pairs.before.items;
  search : SearchesIn l.pause l.pairs (suc (length l.pause.heaps.before.now.words + l.place)) 0;
}

abbrev pub decreases-loop-place : goal.decreases-loop-place
decreases-loop-place l = length l.pause.heaps.before.now.words - l.place
