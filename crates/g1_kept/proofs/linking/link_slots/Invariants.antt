use Rattle.std.proofs.Common.{ℕ, suc, ◌+◌}
use Rattle.g1_kept.specs.Walk.{HasMorePairs, PairsSlots, HasTurn}
use Rattle.g1_kept.specs.Pause.{IsWalkIn, SearchesIn}
use Rattle.g1_kept.proofs.linking.link_slots.Given as goal

abbrev pub invariant-loop-number : goal.invariant-loop-number
invariant-loop-number l = record {
  walk : IsWalkIn l.pause l.pairs;
  grown : HasMorePairs l.initial.pairs l.pairs;
  paired : PairsSlots l.pause.set.now l.pause.heaps.before.now l.pause.heaps.after.now l.pairs l.a l.b l.number;
  search : (t : ℕ) → SearchesIn l.pause l.initial.pairs (suc t) 1 → HasTurn l.pause.set.now l.pause.heaps.before.now l.pause.heaps.after.now l.initial.pairs t l.a l.b
      → SearchesIn l.pause l.pairs (suc t) (l.number + 1);
}
