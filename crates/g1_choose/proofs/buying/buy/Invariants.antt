use Rattle.std.proofs.Common.{◌≡◌, ◌<◌, ◌≤◌}
use Rattle.g1_choose.specs.Bought.{first_cost}
use Rattle.g1_choose.proofs.buying.buy.Given as goal

abbrev pub invariant-loop-candidate : goal.invariant-loop-candidate
invariant-loop-candidate l = record {
  taken : l.taken ≡ l.candidate-index;
  counted : l.spent ≡ first_cost l.parameters l.d l.order l.candidate-index;
  paid : 0 < l.candidate-index → l.spent ≤ l.budget;
}
