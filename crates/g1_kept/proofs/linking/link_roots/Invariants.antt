use Rattle.g1_kept.specs.Walk.{PairsRoots}
use Rattle.g1_kept.specs.Pause.{IsWalkIn, SearchesIn}
use Rattle.g1_kept.proofs.linking.link_roots.Given as goal

abbrev pub invariant-loop-number : goal.invariant-loop-number
invariant-loop-number l = record {
  walk : IsWalkIn l.pause l.pairs;
  paired : PairsRoots l.pause.set.now l.pause.heaps.before.now l.pause.heaps.after.now l.pairs l.number;
  search : SearchesIn l.pause l.pairs 0 l.number;
}
