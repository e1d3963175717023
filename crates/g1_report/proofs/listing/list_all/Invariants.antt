use Rattle.std.proofs.Common.{◌≡◌, ◌+◌, ◌-◌, ◌*◌, ◌^◌}
use Rattle.g1_same.specs.Underway.{IsUnderway}
use Rattle.g1_report.specs.Taken.{TakesFirst}
use Rattle.g1_report.specs.Listed.{TakesLines}
use Rattle.g1_report.specs.Answer.{AreNamesInOrder}
use Rattle.g1_report.specs.Given.{compared}
use Rattle.g1_report.proofs.Counting.{IsCounted}
use Rattle.g1_report.proofs.listing.list_all.Given as goal

abbrev pub invariant-differences : goal.invariant-differences
invariant-differences g l = record {
  underway : IsUnderway l.walk;
  before : l.walk.before.now ≡ l.sides.heaps.before.now;
  after : l.walk.after.now ≡ l.sides.heaps.after.now;
  lines : AreNamesInOrder (compared l.sides) → TakesLines (compared l.sides) (g.L.Lines.taken l.fn.out) (g.L.Lines.taken l.out) l.first;
  counted : IsCounted (compared l.sides) l.walk.way.from l.walk.way.number l.counts;
  took : TakesFirst (g.L.Lines.taken l.fn.out) (g.L.Lines.taken l.out) l.first;
}

-- the way goes on, and the numbers of both of its parts have 32 bits
abbrev pub decreases-differences : goal.decreases-differences
decreases-differences g l = (2 ^ 32 - l.walk.way.from) * 2 ^ 32 + (2 ^ 32 - l.walk.way.number)
