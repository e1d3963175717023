use Rattle.std.proofs.Common.{◌*◌, take}
use Rattle.g1_mark.proofs.Counting.{AreBytesOf}
use Rattle.g1_mark.proofs.bytes.bytes_by_threads.Given as goal

abbrev pub invariant-loop-part : goal.invariant-loop-part
invariant-loop-part g l = AreBytesOf l.heap (take (l.part-index * l.size) l.addresses) l.bytes.items
