use Rattle.std.proofs.Common.{take}
use Rattle.g1_mark.proofs.Counting.{AreBytesOf}
use Rattle.g1_mark.proofs.bytes.bytes_of.Given as goal

abbrev pub invariant-loop-index : goal.invariant-loop-index
invariant-loop-index l = AreBytesOf l.heap (take l.index l.addresses) l.bytes.items
