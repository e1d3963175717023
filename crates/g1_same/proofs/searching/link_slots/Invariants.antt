use Rattle.std.proofs.Common.{◌≤◌}
use Rattle.g1_same.specs.Walk.{IsTour, IsBelow, HasGrown}
use Rattle.g1_same.specs.Behind.{LinksBetween, FindsAlike, PassesNoStale}
use Rattle.g1_same.proofs.searching.link_slots.Given as goal

abbrev pub invariant-loop-number : goal.invariant-loop-number
invariant-loop-number l = record {
  walk : IsTour l.heaps.before.now l.heaps.after.now l.walk;
  grown : HasGrown l.initial.walk l.walk;
  alike : FindsAlike l.heaps.before.now l.heaps.after.now l.initial.walk l.walk;
  linked : LinksBetween l.heaps.before.now l.heaps.after.now l.walk l.fn.first.from l.fn.first.number l.fn.first.from l.number;
  passed : PassesNoStale l.heaps.before.now l.heaps.after.now l.stale l.walk l.fn.first.from l.fn.first.number l.fn.first.from l.number;
  below : IsBelow l.walk l.fn.first.from l.number;
  on : l.fn.first.number ≤ l.number;
}
