-- The candidates as `order` lists them, with the numbers that they are compared by.
use Rattle.std.specs.Prelude.{◌≡◌, ℕ, Bool, ◌&&◌, ◌||◌, ◌*◌, List, map, All, ◌==◌, nat_lt}
use Rattle.g1_words.specs.Heap.{Heap}
use Rattle.g1_choose.specs.declared.candidate.Candidate.{Candidate}
use Rattle.g1_choose.specs.declared.parameters.Cost.{Cost}
use Rattle.g1_choose.specs.Choice.{cost_of, garbage, IsOrder}

-- the one gives more garbage for its cost than the other; of equals the lower region goes first
abbrev pub goes_first : Candidate → Candidate → Bool
goes_first a b =
    nat_lt (a.cost * b.garbage) (b.cost * a.garbage)
    || (a.cost * b.garbage == b.cost * a.garbage && nat_lt a.region b.region)

-- by the regions' remembered sets and live bytes
module _ (c : Cost) (h : Heap) (remembered : List (List ℕ)) (lives : List ℕ) where
  -- the candidate has its region's cost and garbage
  pub record TellsRegion (x : Candidate) : Type 0 where
    pub cost : x.cost ≡ cost_of c h remembered lives x.region
    pub garbage : x.garbage ≡ garbage c h remembered lives x.region

  -- all candidates in their order, each with its cost and garbage
  pub record IsCandidateOrder (xs : List Candidate) : Type 0 where
    pub order : IsOrder c h remembered lives (map (λ x. x.region) xs)
    pub tells : All TellsRegion xs
