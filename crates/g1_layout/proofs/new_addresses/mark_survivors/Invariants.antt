use Rattle.std.proofs.Common.{◌≡◌, ◌*◌, length}
use Rattle.g1_words.specs.Marks.{marks_of}
use Rattle.g1_layout.specs.Words.{AreMarkedTo}
use Rattle.g1_layout.proofs.new_addresses.mark_survivors.Given as goal

abbrev pub invariant-loop-a : goal.invariant-loop-a
invariant-loop-a l = record {
  marked : AreMarkedTo l.geometry.w l.positions l.survivors l.a-index (marks_of (64 * length l.fn.bits.items) l.bits.items);
  same : length l.bits.items ≡ length l.fn.bits.items;
}
