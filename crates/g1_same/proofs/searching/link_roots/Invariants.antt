use Rattle.std.proofs.Common.{◌≤◌}
use Rattle.g1_same.specs.Walk.{IsTour, IsBelow, HasGrown}
use Rattle.g1_same.specs.Behind.{LinksBetween, FindsAlike, PassesNoStale}
use Rattle.g1_same.proofs.searching.link_roots.Given as goal

abbrev pub invariant-loop-number : goal.invariant-loop-number
invariant-loop-number l = record {
  walk : IsTour l.heaps.before.now l.heaps.after.now l.walk;
  grown : HasGrown l.initial.walk l.walk;
  alike : FindsAlike l.heaps.before.now l.heaps.after.now l.initial.walk l.walk;
  linked : LinksBetween l.heaps.before.now l.heaps.after.now l.walk 0 l.first 0 l.number;
  passed : PassesNoStale l.heaps.before.now l.heaps.after.now l.stale l.walk 0 l.first 0 l.number;
  below : IsBelow l.walk 0 l.number;
  on : l.first ≤ l.number;
}
