use Rattle.std.proofs.Common.{◌≡◌, ◌-◌, ◌*◌, length}
use Rattle.g1_words.specs.Marks.{marks_of}
use Rattle.g1_frontier.proofs.Begins.{MarkedTo}
use Rattle.g1_frontier.proofs.numbers.mark_region.Given as goal

abbrev pub invariant-objects : goal.invariant-objects
invariant-objects l = record {
  marked : MarkedTo l.fn.heap l.region l.first l.at l.end
      (marks_of (64 * length l.initial.starts.items) l.initial.starts.items) (marks_of (64 * length l.initial.starts.items) l.starts.items);
  same : length l.starts.items ≡ length l.initial.starts.items;
}

abbrev pub decreases-objects : goal.decreases-objects
decreases-objects l = l.end - l.at
