use Rattle.std.proofs.Common.{◌≡◌, ◌≤◌, ◌*◌, ◌^◌, take, sum}
use Rattle.g1_report.proofs.listing.sum_of.Given as goal

abbrev pub invariant-loop-count : goal.invariant-loop-count
invariant-loop-count l = record {
  sum : l.all ≡ sum (take l.count-index l.counts);
  few : l.all ≤ l.count-index * 2 ^ 64;
}
