-- What budgets buy of the three regions.
use Rattle.std.proofs.Common.{◌≡◌, ℕ, ◌+◌, ◌<◌, ◌≤◌, List, [], ◌∷◌, filter, take, Contains, refl, zero, suc, arith}
use Rattle.g1_words.specs.Heap.{regions}
use Rattle.g1_words.specs.Lists.{has}
use Rattle.g1_choose.specs.Choice.{comes_before, pause_cost}
use Rattle.g1_choose.proofs.Budget.{longest_from_walk}
use Rattle.g1_examples.specs.Examples.{three_regions}
use Rattle.g1_examples.specs.Choices.{unit_prices, three_remembered, three_lives, Orders, Buys}
use Rattle.g1_examples.proofs.Sorted.{sorted_by_test}

pub in_order : Orders (0 ∷ 1 ∷ 2 ∷ [])
in_order = record { all = λ r. ((λ k. k), (λ k. k)); sorted = sorted_by_test (comes_before unit_prices three_regions three_remembered three_lives) (0 ∷ 1 ∷ 2 ∷ []) refl }

-- the first m regions, where they are paid and one more isn't
pub buys : (budget m : ℕ) (set : List ℕ) → m ≤ 3 → (0 < m → pause_cost unit_prices three_regions three_remembered three_lives 0 (take m (0 ∷ 1 ∷ 2 ∷ [])) ≤ budget)
    → (m < 3 → budget < pause_cost unit_prices three_regions three_remembered three_lives 0 (take (m + 1) (0 ∷ 1 ∷ 2 ∷ [])))
    → set ≡ filter (has (take m (0 ∷ 1 ∷ 2 ∷ []))) (regions three_regions) → Buys budget set
buys budget m set le pays stop e = record {
  order = 0 ∷ 1 ∷ 2 ∷ [];
  is_order = in_order;
  taken = m;
  longest = longest_from_walk unit_prices three_regions three_remembered three_lives 0 budget (0 ∷ 1 ∷ 2 ∷ []) m le pays stop;
  rising = e;
}

-- a list of two has its members in either order
pub two_swapped : (a b r : ℕ) → Contains (a ∷ b ∷ []) r → Contains (b ∷ a ∷ []) r
two_swapped a b r (zero, lt, e) = (suc zero, omega arith, e)
two_swapped a b r (suc zero, lt, e) = (zero, omega arith, e)
two_swapped a b r (suc (suc k), lt, e) = absurd (omega (arith, lt))
