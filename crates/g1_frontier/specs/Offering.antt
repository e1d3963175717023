-- What a worker's offers leave in its seat, and what it keeps.
use Rattle.std.specs.Prelude.{◌≡◌, ℕ, ◌<◌, ◌≤◌, ◌-◌, Bool, true, List, [], ◌∷◌, ◌++◌, map, filter, take, drop, length, vec_len, slice_index_or}
use Rattle.g1_claim.specs.declared.rule.Offer.{Offer}
use Rattle.g1_claim.specs.Claims.{all_shares, TableView, offer, least_rank}
use Rattle.g1_frontier.specs.declared.offering.Holder.{Holder}
use Rattle.g1_frontier.specs.declared.offering.Span.{Span}
use Rattle.g1_frontier.specs.declared.scope.Scope.{Scope}
use Rattle.g1_frontier.specs.Scope.{IsScope, place_count}

-- a rank and an address, and whether the offer answered true
abbrev pub Try : Type 0
Try = (ℕ × ℕ) × Bool

-- the rank and the address
abbrev pub pair_of : Try → ℕ × ℕ
pair_of t = t.0

-- whether the offer answered true
abbrev pub answered_true : Try → Bool
answered_true t = t.1

-- the offer, at the address's place
abbrev pub offer_of : (ℕ → ℕ) → Try → Offer
offer_of place t = offer (place t.0.1) t.0.0 t.1

-- each offer that answered true was below all ranks that were offered before at its place
abbrev pub Lowers : (ℕ → ℕ) → List Offer → List Try → Type 0
Lowers place before [] = Unit {0}
Lowers place before (t ∷ ts) = (answered_true t ≡ true → t.0.0 < least_rank (place t.0.1) before) × Lowers place (before ++ offer_of place t ∷ []) ts

-- the pairs were offered, each once and in order, and those whose offer answered true were put behind what was kept; with all shares these lowered what was offered before
pub record HasTried (place : ℕ → ℕ) (ps : List (ℕ × ℕ)) (before after : Holder) : Type 0 where
  pub made : List Try
  pub each : map pair_of made ≡ ps
  pub offers : after.seat.hand.offers ≡ before.seat.hand.offers ++ map (offer_of place) made
  pub kept : after.kept.items ≡ before.kept.items ++ map pair_of (filter answered_true made)
  pub number : after.number ≡ before.number
  pub table : after.seat.table ≡ before.seat.table
  pub shares : after.seat.hand.shares ≡ before.seat.hand.shares
  pub lowers : before.seat.hand.shares ≡ all_shares → Lowers place before.seat.hand.offers made

-- the span is what stands in the worker's room behind what it had kept before
pub record IsSpan (before after : Holder) (o : Span) : Type 0 where
  pub worker : o.worker ≡ before.number
  pub from : o.from ≡ vec_len before.kept
  pub to : o.to ≡ vec_len after.kept

-- what stands in a span of the rooms
abbrev pub in_span : List (List (ℕ × ℕ)) → Span → List (ℕ × ℕ)
in_span rooms o = take (o.to - o.from) (drop o.from (slice_index_or rooms o.worker []))

-- the span is one of the rooms
pub record IsWithin (rooms : List (List (ℕ × ℕ))) (o : Span) : Type 0 where
  pub worker : o.worker < length rooms
  pub order : o.from ≤ o.to
  pub room : o.to ≤ length (slice_index_or rooms o.worker [])

-- the table has all places
pub record HasPlaces (s : Scope) (t : TableView) : Type 0 where
  pub scope : IsScope s
  pub places : place_count s ≤ t.places
