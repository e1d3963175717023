use Rattle.std.proofs.Common.{◌≡◌, ℕ, List, subst}
use Rattle.std.specs.List.Sorted.{IsPermutation}
use Rattle.g1_choose.proofs.Naming.{all_good, all_within}
use Rattle.g1_choose.proofs.Rising.{risen}
use Rattle.g1_choose.proofs.named.given.Goals as goal

pub returns-clause-accepted : goal.returns-clause-accepted
returns-clause-accepted c = all_good c.args.heap.now c.args.list.now c.in_ok-check.ensures.ok

pub returns-clause-rising : goal.returns-clause-rising
returns-clause-rising c =
    let h = c.args.heap.now in
    let list = c.args.list.now in
    let sorted : List ℕ = c.sort_unstable.new.self.items in
    let copied : c.in_ok-set.set.items ≡ list = c.in_ok-set.ensures.items_if_clones_equal (λ x y e. e) in
    risen h list sorted (subst (λ xs. IsPermutation xs sorted) copied c.sort_unstable.ensures.permutation) c.sort_unstable.ensures.sorted
    (all_good h list c.in_ok-check.ensures.ok).distinct
    (all_within h list c.in_ok-check.ensures.ok)
