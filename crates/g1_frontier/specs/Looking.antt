-- What a worker sees when it looks again at what a round kept.
use Rattle.std.specs.Prelude.{◌≡◌, ℕ, ◌≤◌, Bool, eqb, List, ◌++◌, map, filter}
use Rattle.std.specs.List.{All}
use Rattle.g1_claim.specs.declared.rule.Sight.{Sight}
use Rattle.g1_claim.specs.Claims.{SeatView, sight}
use Rattle.g1_claim.specs.History.{Begins, least_in}

-- a rank and an address, and the word that was seen at its place
abbrev pub Look : Type 0
Look = (ℕ × ℕ) × ℕ

-- the rank and the address
abbrev pub looked_at : Look → ℕ × ℕ
looked_at l = l.0

-- whether the rank was the word
abbrev pub is_there : Look → Bool
is_there l = eqb l.1 l.0.0

-- the sight, at the address's place
abbrev pub sight_of : (ℕ → ℕ) → Look → Sight
sight_of place l = sight (place l.0.1) l.1

-- the pairs were looked at, each once and in order, and those are listed whose rank was the word; no word was above the least of what the seat had seen; nothing was offered
pub record HasLooked (place : ℕ → ℕ) (ps : List (ℕ × ℕ)) (before after : SeatView) (list : List (ℕ × ℕ)) : Type 0 where
  pub looks : List Look
  pub each : map looked_at looks ≡ ps
  pub listed : list ≡ map looked_at (filter is_there looks)
  pub low : All (λ l. l.1 ≤ least_in (place l.0.1) before.seen) looks
  pub sights : after.hand.sights ≡ before.hand.sights ++ map (sight_of place) looks
  pub seen : Begins after.seen before.seen
  pub offers : after.hand.offers ≡ before.hand.offers
  pub shares : after.hand.shares ≡ before.hand.shares
  pub table : after.table ≡ before.table
