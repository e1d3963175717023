use Rattle.std.proofs.Common.{◌<◌, ◌+◌, ◌-◌, length}
use Rattle.g1_same.specs.Walk.{IsTour, IsBelow, IsEarlier, HasGrown}
use Rattle.g1_same.specs.Behind.{LinksBetween, FindsAlike, PassesNoStale}
use Rattle.g1_same.proofs.searching.link_pairs.Given as goal

abbrev pub invariant-loop-way : goal.invariant-loop-way
invariant-loop-way l = record {
  walk : IsTour l.heaps.before.now l.heaps.after.now l.walk;
  grown : HasGrown l.initial.walk l.walk;
  alike : FindsAlike l.heaps.before.now l.heaps.after.now l.initial.walk l.walk;
  linked : LinksBetween l.heaps.before.now l.heaps.after.now l.walk l.fn.first.from l.fn.first.number l.way.from l.way.number;
  passed : PassesNoStale l.heaps.before.now l.heaps.after.now l.stale l.walk l.fn.first.from l.fn.first.number l.way.from l.way.number;
  below : IsBelow l.walk l.way.from l.way.number;
  some : 0 < l.way.from;
  on : IsEarlier l.way.from l.way.number l.fn.first.from l.fn.first.number → ⊥;
}

abbrev pub decreases-loop-way : goal.decreases-loop-way
decreases-loop-way l = length l.heaps.before.now.words + 1 - l.way.from
