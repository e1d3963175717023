use Rattle.g1_kept.specs.Walk.{HasMorePairs}
use Rattle.g1_kept.proofs.Growing.{ComparesFirst}
use Rattle.g1_kept.specs.Pause.{IsWalkIn}
use Rattle.g1_kept.proofs.Outside.{IsAlong}
use Rattle.g1_kept.proofs.keeping.compare_region.Given as goal

abbrev pub invariant-loop-place : goal.invariant-loop-place
invariant-loop-place l = record {
  walk : IsWalkIn l.pause l.pairs;
  grown : HasMorePairs l.initial.pairs l.pairs;
  compared : ComparesFirst l.pause.set.now l.pause.heaps.before.now l.pause.heaps.after.now l.pairs l.starts.items l.place;
  along : IsAlong l.pause.fill l.pause.set.now l.pause.heaps.before.now l.pause.heaps.after.now l.pairs l.starts.items l.region l.place;
}
