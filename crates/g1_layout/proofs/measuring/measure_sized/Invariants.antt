use Rattle.g1_layout.proofs.Counted.{Counted}
use Rattle.g1_layout.proofs.Laying.{Laying}
use Rattle.g1_layout.proofs.measuring.measure_sized.Given as goal

abbrev pub invariant-loop-i : goal.invariant-loop-i
invariant-loop-i l = record {
  laying : Laying l.heap l.survivors l.i l.end;
  counted : Counted l.heap l.survivors l.i l.words;
}
