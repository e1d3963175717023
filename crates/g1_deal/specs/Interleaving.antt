-- What the steps of all seats come to, in whatever order they come.
use Rattle.std.specs.Prelude.{◌≡◌, ℕ, ◌<◌, ◌≤◌, min, true, List}
use mathlib.Core.Option.{some}
use lib.ListN.{get_elem?}
use Rattle.g1_deal.specs.declared.rule.Hand.{Hand}
use Rattle.g1_deal.specs.Dealer.{once_below}
use Rattle.g1_deal.specs.Rule.{Leads, times_drawn, count_drawn}

-- after any interleaving no number has been drawn twice
abbrev pub NoneTwice : Type 0
NoneTwice = (chunks cursor : ℕ) (hands : List Hand) → Leads chunks cursor hands → (x : ℕ) → times_drawn x hands ≤ 1

-- and none below a drawn one is skipped
abbrev pub NoneSkipped : Type 0
NoneSkipped = (chunks cursor : ℕ) (hands : List Hand) → Leads chunks cursor hands → (x y : ℕ) → x < y → 0 < times_drawn y hands → times_drawn x hands ≡ 1

-- the numbers drawn are those below the cursor that are chunks, each once, and no others
abbrev pub DrawnSoFar : Type 0
DrawnSoFar = (chunks cursor : ℕ) (hands : List Hand) → Leads chunks cursor hands
    → (count_drawn hands ≡ min cursor chunks) × ((x : ℕ) → times_drawn x hands ≡ once_below x (min cursor chunks))

-- every number below what a seat knows to be drawn has been drawn; so all have, once a seat has had None
abbrev pub FloorsHold : Type 0
FloorsHold = (chunks cursor : ℕ) (hands : List Hand) → Leads chunks cursor hands → (k : ℕ) (v : Hand) → get_elem? hands k ≡ some v →
    ((x : ℕ) → x < v.floor → times_drawn x hands ≡ 1) × (v.had_none ≡ true → v.floor ≡ chunks)
