-- What the steps of all seats come to, in whatever order they come.
use Rattle.std.specs.Prelude.{◌≡◌, ℕ, ◌<◌, ◌≤◌, List, slice_index}
use Rattle.g1_claim.specs.declared.rule.Hand.{Hand}
use Rattle.g1_claim.specs.History.{History, Begins, least_in, times_in, bids}
use Rattle.g1_claim.specs.Rule.{Leads, hands_total, least_offered, IsWord}

-- after any interleaving the word of each place is the least rank that any seat has offered there so far, or empty if none has
abbrev pub LeastSoFar : Type 0
LeastSoFar = (n : ℕ) (words : List ℕ) (hands : List Hand) (log : History) → Leads n words hands log → (p : ℕ) → p < n → slice_index words p ≡ least_offered p hands

-- and then nobody has offered there, or exactly one offer of that rank has answered true
abbrev pub WonSoFar : Type 0
WonSoFar = (n : ℕ) (words : List ℕ) (hands : List Hand) (log : History) → Leads n words hands log → (p : ℕ) → p < n → IsWord p (slice_index words p) hands

-- the word of each place is the least rank that the history has there, and the history has the offers of all seats and no others
abbrev pub HistorySoFar : Type 0
HistorySoFar = (n : ℕ) (words : List ℕ) (hands : List Hand) (log : History) → Leads n words hands log → ((p : ℕ) → p < n → slice_index words p ≡ least_in p log)
    × ((p r : ℕ) → hands_total (λ v. times_in p r (bids v.offers)) hands ≡ times_in p r log)

-- who has seen more of the history saw no greater word
abbrev pub LaterIsLess : Type 0
LaterIsLess = (p : ℕ) (seen later : History) → Begins later seen → least_in p later ≤ least_in p seen
