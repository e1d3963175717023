use Rattle.std.proofs.Common.{◌≡◌, ◌≤◌, ◌*◌, ◌^◌, take, sum_by}
use Rattle.g1_words.specs.Heap.{object_at}
use Rattle.g1_report.proofs.comparing.words_of.Given as goal

abbrev pub invariant-loop-address : goal.invariant-loop-address
invariant-loop-address l = record {
  sum : l.words ≡ sum_by (λ a. (object_at l.heap a).size) (take l.address-index l.addresses);
  few : l.words ≤ l.address-index * 2 ^ 32;
}
