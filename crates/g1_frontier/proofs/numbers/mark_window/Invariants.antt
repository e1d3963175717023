use Rattle.std.proofs.Common.{◌≡◌, ◌*◌, length, replicate, false}
use Rattle.g1_words.specs.Marks.{marks_of}
use Rattle.g1_frontier.specs.Numbers.{and_marked}
use Rattle.g1_frontier.proofs.Numberings.{places_to}
use Rattle.g1_frontier.proofs.numbers.mark_window.Given as goal

abbrev pub invariant-loop-index : goal.invariant-loop-index
invariant-loop-index l = record {
  marked : marks_of (64 * length l.starts.items) l.starts.items ≡ and_marked (replicate (64 * length l.starts.items) false) (places_to l.heap l.window l.index);
  same : length l.starts.items ≡ length l.initial.starts.items;
}
