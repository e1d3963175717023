-- How far a budget goes in an order of candidates.
use Rattle.std.specs.Prelude.{◌≡◌, ℕ, List, map, take, length}
use Rattle.std.specs.List.Sorted.{IsPermutation, IsSorted}
use Rattle.std.specs.Ordering.{nat_cmp}
use Rattle.g1_choose.specs.declared.candidate.Candidate.{Candidate}
use Rattle.g1_choose.specs.declared.parameters.Cost.{Cost}
use Rattle.g1_choose.specs.declared.buying.Purchase.{Purchase}
use Rattle.g1_choose.specs.Choice.{IsLongestPaid}
use Rattle.g1_choose.specs.Cost.{total}

-- the cost of a pause with d dirty cards that collects the first m candidates
abbrev pub first_cost : Cost → ℕ → List Candidate → ℕ → ℕ
first_cost c d order m = total c d (map (λ x. x.cost) (take m order))

-- the first m candidates are the longest beginning that the budget pays
abbrev pub IsPaid : Cost → ℕ → ℕ → List Candidate → ℕ → Type 0
IsPaid c d budget order m = IsLongestPaid (first_cost c d order) (length order) budget m

-- what the budget buys, and what a pause that collects it costs
pub record IsPurchase (c : Cost) (d budget : ℕ) (order : List Candidate) (p : Purchase) : Type 0 where
  pub paid : IsPaid c d budget order p.taken
  pub total : p.total ≡ first_cost c d order p.taken

-- the regions of the candidates, rising
pub record AreRegionsOf (candidates : List Candidate) (set : List ℕ) : Type 0 where
  pub same : IsPermutation (map (λ x. x.region) candidates) set
  pub rising : IsSorted nat_cmp set
