-- What holds of the cursor and of all hands between any two steps.
use Rattle.std.proofs.Common.{◌≡◌, ℕ, ◌+◌, ◌^◌, ◌<◌, ◌≤◌, min, Bool, true, false, List, [], length}
use mathlib.Core.Option.{some}
use lib.ListN.{get_elem?}
use Rattle.g1_deal.specs.declared.rule.Hand.{Hand}
use Rattle.g1_deal.specs.Dealer.{all_shares, times, once_below}
use Rattle.g1_deal.specs.Rule.{hands_total}

-- n where it is true, else 0
abbrev pub weigh : Bool → ℕ → ℕ
weigh true n = n
weigh false n = 0

-- one hand of a dealer of which `reached` chunks are drawn
pub record IsSound (chunks reached : ℕ) (v : Hand) : Type 0 where
  pub chunks_is : 0 < v.shares → v.chunks ≡ chunks
  pub idle_draws : v.shares ≡ 0 → v.draws ≡ []
  pub idle_steps : v.shares ≡ 0 → v.steps ≡ 0
  pub floor_seen : v.floor ≤ reached
  pub none_is_end : v.had_none ≡ true → v.floor ≡ chunks

-- between any two steps: all hands have all shares, their draws are the numbers below the smaller of the cursor and
-- `chunks`, each once, and their steps are the cursor, which passes `chunks` only by shares of hands that have had None
pub record Dealing (chunks cursor : ℕ) (views : List Hand) : Type 0 where
  pub few : chunks < 2 ^ 32
  pub shares : hands_total (λ v. v.shares) views ≡ all_shares
  pub draws : (x : ℕ) → hands_total (λ v. times x v.draws) views ≡ once_below x (min cursor chunks)
  pub count : hands_total (λ v. length v.draws) views ≡ min cursor chunks
  pub steps : hands_total (λ v. v.steps) views ≡ cursor
  pub bound : cursor ≤ chunks + hands_total (λ v. weigh v.had_none v.shares) views
  pub each : (id : ℕ) (v : Hand) → get_elem? views id ≡ some v → IsSound chunks (min cursor chunks) v
