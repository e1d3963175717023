-- The laws that public functions of this crate prove.
use Rattle.std.specs.Prelude.{◌≡◌, ◌≢◌, ◌<◌, ◌≤◌, ◌⊎◌, ℕ, List, length, Contains, IsTrue}
use Rattle.g1_words.specs.Heap.{Heap}
use Rattle.g1_words.specs.Valid.{IsValid}
use Rattle.g1_words.specs.Live.{IsLiveBytes}
use Rattle.g1_choose.specs.declared.parameters.Cost.{Cost}
use Rattle.g1_choose.specs.Choice.{MayBeLive, candidates, comes_before, pause_cost, IsOrder, IsChosen}
use Rattle.g1_choose.specs.Named.{AreTakeable, IsFirstBad}

-- of two regions at most one comes before the other
abbrev pub OneWay : Type 0
OneWay = (c : Cost) (h : Heap) (remembered : List (List ℕ)) (lives : List ℕ) (r q : ℕ)
    → IsTrue (comes_before c h remembered lives r q) → IsTrue (comes_before c h remembered lives q r) → ⊥

-- and at least one, if they are two
abbrev pub AnyTwo : Type 0
AnyTwo = (c : Cost) (h : Heap) (remembered : List (List ℕ)) (lives : List ℕ) (r q : ℕ)
    → r ≢ q → IsTrue (comes_before c h remembered lives r q) ⊎ IsTrue (comes_before c h remembered lives q r)

-- a candidate before one that is before a third is before the third
abbrev pub EfficiencyChain : Type 0
EfficiencyChain = (c : Cost) (h : Heap) (remembered : List (List ℕ)) (lives : List ℕ) (r q s : ℕ)
    → Contains (candidates c h remembered lives) r → Contains (candidates c h remembered lives) q → Contains (candidates c h remembered lives) s
    → IsTrue (comes_before c h remembered lives r q) → IsTrue (comes_before c h remembered lives q s) → IsTrue (comes_before c h remembered lives r s)

-- the candidates of a heap have an order
abbrev pub OrderExists : Type 0
OrderExists = (c : Cost) (h : Heap) (remembered : List (List ℕ)) (lives : List ℕ) → (order : List ℕ) × IsOrder c h remembered lives order

-- and no second one
abbrev pub OneOrder : Type 0
OneOrder = (c : Cost) (h : Heap) (remembered : List (List ℕ)) (lives : List ℕ) (xs ys : List ℕ)
    → IsOrder c h remembered lives xs → IsOrder c h remembered lives ys → xs ≡ ys

-- a budget buys a set
abbrev pub SetExists : Type 0
SetExists = (c : Cost) (h : Heap) (remembered : List (List ℕ)) (lives : List ℕ) (d budget : ℕ) → (set : List ℕ) × IsChosen c h remembered lives d budget set

-- and no second one
abbrev pub OneSet : Type 0
OneSet = (c : Cost) (h : Heap) (remembered : List (List ℕ)) (lives : List ℕ) (d budget : ℕ) (xs ys : List ℕ)
    → IsChosen c h remembered lives d budget xs → IsChosen c h remembered lives d budget ys → xs ≡ ys

-- a candidate that comes before a region of the set is in the set: none is left out for a later one that fits
abbrev pub NoneSkipped : Type 0
NoneSkipped = (c : Cost) (h : Heap) (remembered : List (List ℕ)) (lives : List ℕ) (d budget : ℕ) (set : List ℕ) (r q : ℕ)
    → IsChosen c h remembered lives d budget set → Contains (candidates c h remembered lives) r → IsTrue (comes_before c h remembered lives r q) → Contains set q → Contains set r

-- a set with a region costs no more than the budget
abbrev pub WithinBudget : Type 0
WithinBudget = (c : Cost) (h : Heap) (remembered : List (List ℕ)) (lives : List ℕ) (d budget : ℕ) (set : List ℕ)
    → IsChosen c h remembered lives d budget set → 0 < length set → pause_cost c h remembered lives d set ≤ budget

-- the regions of the set are candidates
abbrev pub OnlyCandidates : Type 0
OnlyCandidates = (c : Cost) (h : Heap) (remembered : List (List ℕ)) (lives : List ℕ) (d budget : ℕ) (set : List ℕ) (r : ℕ)
    → IsChosen c h remembered lives d budget set → Contains set r → Contains (candidates c h remembered lives) r

-- a list that isn't one of distinct ordinary regions without pins has a first bad place
abbrev pub AcceptedOrBad : Type 0
AcceptedOrBad = (h : Heap) (list : List ℕ) → AreTakeable h list ⊎ ((i : ℕ) × IsFirstBad h list i)

-- an accepted list has no bad place
abbrev pub AcceptedNotBad : Type 0
AcceptedNotBad = (h : Heap) (list : List ℕ) (i : ℕ) → IsValid h → AreTakeable h list → IsFirstBad h list i → ⊥

-- a list has one first bad place
abbrev pub OneFirstBad : Type 0
OneFirstBad = (h : Heap) (list : List ℕ) (i j : ℕ) → IsFirstBad h list i → IsFirstBad h list j → i ≡ j

-- what is counted as live is at most what is used
abbrev pub LiveWithinUsed : Type 0
LiveWithinUsed = (h : Heap) (lives : List ℕ) → IsValid h → IsLiveBytes h lives → MayBeLive h lives
