use Rattle.std.proofs.Common.{◌≡◌, map, take, slice_index}
use Rattle.g1_words.specs.Valid.{IsReference}
use Rattle.g1_report.specs.Program.{program_of, AreInOrder}
use Rattle.g1_report.specs.Runs.{grouped}
use Rattle.g1_report.specs.Gathered.{group_of}
use Rattle.g1_report.specs.Steps.{steps_text}
use Rattle.g1_report.proofs.Steps.{word_after}
use Rattle.g1_report.proofs.naming.groups_of.Given as goal

abbrev pub invariant-loop-slot : goal.invariant-loop-slot
invariant-loop-slot l = record {
  reference : IsReference l.heap l.word;
  word : l.word ≡ word_after l.heap (slice_index l.heap.roots l.root) (take l.slot-index l.slots);
  groups : AreInOrder (program_of l.names) → map group_of l.groups.items ≡ grouped (steps_text (program_of l.names) l.heap l.root (take l.slot-index l.slots));
}
