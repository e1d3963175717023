use Rattle.std.proofs.Common.{suc}
use Rattle.g1_words.specs.Heap.{start}
use Rattle.g1_kept.specs.Walk.{HasMorePairs, ComparesOutside}
use Rattle.g1_kept.specs.Pause.{IsWalkIn, SearchesIn}
use Rattle.g1_kept.proofs.keeping.compare_outside.Given as goal

abbrev pub invariant-loop-region : goal.invariant-loop-region
invariant-loop-region l = record {
  walk : IsWalkIn l.pause l.pairs;
  grown : HasMorePairs l.initial.pairs l.pairs;
  compared : ComparesOutside l.pause.set.now l.pause.heaps.before.now l.pause.heaps.after.now l.pairs l.region;
  search : SearchesIn l.pause l.pairs (suc (start l.pause.heaps.before.now l.region)) 0;
}
