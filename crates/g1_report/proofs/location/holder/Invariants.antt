use Rattle.std.proofs.Common.{◌≡◌, take}
use Rattle.g1_words.specs.Heap.{start}
use Rattle.g1_report.proofs.Locating.{last_to}
use Rattle.g1_report.proofs.location.holder.Given as goal

abbrev pub invariant-loop-start : goal.invariant-loop-start
invariant-loop-start l = l.last ≡ last_to l.address (start l.heap l.region) (take l.start-index l.start-items)
