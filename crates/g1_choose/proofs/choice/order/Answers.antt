use Rattle.std.proofs.Common.{ℕ, List, map, rules}
use Rattle.std.proofs.lemmas.Fn.{always_returns_same}
use Rattle.g1_choose.specs.Candidate.{goes_first}
use Rattle.g1_choose.proofs.Sorting.{efficiency_order, in_order}
use Rattle.g1_choose.proofs.choice.order.Goals as goal

pub returns-clause-ok : goal.returns-clause-ok
returns-clause-ok c =
    let remembered : List (List ℕ) = map (λ s. s.items) c.args.remembered.now in
    in_order c.args.parameters.now c.args.heap.now remembered c.args.live.now c.in_ok-candidates.candidates.items c.sort_unstable_by.new.self.items
    c.in_ok-candidates.ensures.all c.in_ok-candidates.ensures.tells c.sort_unstable_by.ensures.permutation
    (c.sort_unstable_by.ensures.sorted goes_first efficiency_order (always_returns_same _ _ _ (λ a r f k. search rules)))
