-- Which regions a budget buys: those that give most garbage for their cost come first.
use Rattle.std.specs.Prelude.{◌≡◌, ◌↔◌, ℕ, Bool, not, ◌&&◌, ◌||◌, List, [], ◌-◌, ◌*◌, ◌<◌, ◌≤◌, map, filter, take, length, slice_index, slice_index_or, Contains, AllPairs, IsTrue, ◌==◌, nat_lt}
use Rattle.g1_words.specs.declared.region.Kind.TheVariants.{Ordinary}
use Rattle.g1_words.specs.Heap.{Heap, kind, pinned, top, regions, is_ordinary}
use Rattle.g1_words.specs.Lists.{has}
use Rattle.g1_choose.specs.declared.parameters.Cost.{Cost}
use Rattle.g1_choose.specs.Cost.{cost, total}

-- one number of live bytes a region; those of an ordinary region are at most the bytes that are used
pub record MayBeLive (h : Heap) (lives : List ℕ) : Type 0 where
  pub one_each : length lives ≡ h.geometry.n
  pub at_most_used : (r : ℕ) → kind h r ≡ Ordinary → slice_index lives r ≤ 8 * top h r

-- A pause of the first j regions of an order of n costs `costs j`. Then m is the length of the longest beginning that the budget
-- pays, and 0 if it doesn't pay even the empty one.
pub record IsLongestPaid (costs : ℕ → ℕ) (n budget m : ℕ) : Type 0 where
  pub within : m ≤ n
  pub paid : 0 < m → costs m ≤ budget
  pub longest : (j : ℕ) → j ≤ n → costs j ≤ budget → j ≤ m

-- by the regions' remembered sets and live bytes
module _ (c : Cost) (h : Heap) (remembered : List (List ℕ)) (lives : List ℕ) where
  -- the cost of region r
  abbrev pub cost_of : ℕ → ℕ
  cost_of r = cost c (length (slice_index_or remembered r [])) (slice_index lives r)

  -- the bytes of region r that are used and not live
  abbrev pub garbage : ℕ → ℕ
  garbage r = 8 * top h r - slice_index lives r

  -- region r is ordinary, isn't pinned, and has garbage
  abbrev pub is_candidate : ℕ → Bool
  is_candidate r = is_ordinary (kind h r) && (not (pinned h r) && nat_lt 0 (garbage r))

  -- the regions that a budget may buy, by number
  abbrev pub candidates : List ℕ
  candidates = filter is_candidate (regions h)

  -- r gives more garbage for its cost than q; of equals the lower region comes first
  abbrev pub comes_before : ℕ → ℕ → Bool
  comes_before r q =
      nat_lt (cost_of r * garbage q) (cost_of q * garbage r)
      || (cost_of r * garbage q == cost_of q * garbage r && nat_lt r q)

  -- the candidates, each before all later ones
  pub record IsOrder (order : List ℕ) : Type 0 where
    pub all : (r : ℕ) → Contains order r ↔ Contains candidates r
    pub sorted : AllPairs (λ r q. IsTrue (comes_before r q)) order

  -- the cost of a pause with d dirty cards that takes these regions
  abbrev pub pause_cost : ℕ → List ℕ → ℕ
  pause_cost d set = total c d (map cost_of set)

  -- m is the length of the longest beginning of the order that the budget pays
  abbrev pub IsLongest : ℕ → ℕ → List ℕ → ℕ → Type 0
  IsLongest d budget order m = IsLongestPaid (λ j. pause_cost d (take j order)) (length order) budget m

  -- the set is what the budget buys, by number
  pub record IsChosen (d budget : ℕ) (set : List ℕ) : Type 0 where
    pub order : List ℕ
    pub is_order : IsOrder order
    pub taken : ℕ
    pub longest : IsLongest d budget order taken
    pub rising : set ≡ filter (has (take taken order)) (regions h)
