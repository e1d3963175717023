use Rattle.std.proofs.Common.{take}
use Rattle.g1_mark.proofs.Counting.{AreBytesOf}
use Rattle.g1_mark.proofs.bytes.bytes_at.Given as goal

abbrev pub invariant-loop-address : goal.invariant-loop-address
invariant-loop-address l = AreBytesOf l.heap (take l.address-index l.addresses) l.bytes.items
