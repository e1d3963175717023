use Rattle.std.proofs.Common.{◌≡◌, true, take}
use Rattle.g1_words.specs.Layout.{sizes_of}
use Rattle.g1_layout.proofs.Counted.{Counted}
use Rattle.g1_layout.proofs.Laying.{Laying}
use Rattle.g1_layout.proofs.measuring.measure.Given as goal

abbrev pub invariant-loop-a : goal.invariant-loop-a
invariant-loop-a l = record {
  laying : Laying l.heap l.survivors l.a-index l.end;
  counted : Counted l.heap l.survivors l.a-index l.words;
  sized : l.kept ≡ true → l.sizes.items ≡ sizes_of l.heap (take l.a-index l.survivors);
}
