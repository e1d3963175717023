-- What a round of offers leaves.
use Rattle.std.specs.Prelude.{◌≡◌, ℕ, ◌+◌, ◌<◌, ◌≤◌, Bool, eqb, List, [], ◌∷◌, ◌++◌, map, filter, flat_map, length, sum_by, IsPermutation}
use Rattle.std.specs.List.{All, AllPairs, range_with_len}
use Rattle.g1_claim.specs.declared.rule.Offer.{Offer}
use Rattle.g1_claim.specs.Claims.{all_shares, TableView, SeatView, IsSeatOf, IsSettled, AreWon, least_rank}
use Rattle.g1_frontier.specs.declared.offering.Holder.{Holder}
use Rattle.g1_frontier.specs.declared.offering.Span.{Span}
use Rattle.g1_frontier.specs.Offering.{Try, pair_of, answered_true, offer_of, in_span, IsWithin}

-- the ranks rise
abbrev pub Rises : List (ℕ × ℕ) → Type 0
Rises ps = AllPairs (λ q r. q.0 < r.0) ps

-- each of the ranks is above each that was offered
abbrev pub AreAbove : List Offer → List (ℕ × ℕ) → Type 0
AreAbove os ps = All (λ o. All (λ q. o.rank < q.0) ps) os

-- an offer's place and rank
abbrev pub bid_of : Offer → ℕ × ℕ
bid_of o = (o.place, o.rank)

-- the place and the rank of a rank and an address
abbrev pub bid : (ℕ → ℕ) → ℕ × ℕ → ℕ × ℕ
bid place q = (place q.1, q.0)

-- the offers after are those before, and one of each rank at the place of its address, in whatever order
abbrev pub AddsOffers : (ℕ → ℕ) → List (ℕ × ℕ) → List Offer → List Offer → Type 0
AddsOffers place ps before after = (made : List Offer) × IsPermutation (map bid_of made) (map (bid place) ps) × (after ≡ before ++ made)

-- the rank is the least that was offered at the address's place
abbrev pub is_least : (ℕ → ℕ) → List Offer → ℕ × ℕ → Bool
is_least place os q = eqb (least_rank (place q.1) os) q.0

-- those ranks and addresses whose rank is the word of its place, where all offers are in the list
abbrev pub winners : (ℕ → ℕ) → List Offer → List (ℕ × ℕ) → List (ℕ × ℕ)
winners place os ps = filter (is_least place os) ps

-- a worker that has offered and kept nothing, with one share
pub record IsFreshHolder (t : TableView) (h : Holder) : Type 0 where
  pub seat : IsSeatOf t h.seat
  pub share : h.seat.hand.shares ≡ 1
  pub no_offers : h.seat.hand.offers ≡ []
  pub none_kept : h.kept.items ≡ []

-- so many workers, the last of number 0 and the others numbered from 1; the last one has the shares that are left, and what the seat offered; each has seen what the seat has
pub record IsGivenOut (t : TableView) (before : SeatView) (count : ℕ) (holders : List Holder) : Type 0 where
  pub others : List Holder
  pub last : Holder
  pub are : holders ≡ others ++ last ∷ []
  pub count_is : length holders ≡ count
  pub numbers : map (λ h. h.number) others ≡ range_with_len 1 (length others)
  pub first : last.number ≡ 0
  pub fresh : All (IsFreshHolder t) others
  pub seat : IsSeatOf t last.seat
  pub shares : length others + last.seat.hand.shares ≡ all_shares
  pub offers : last.seat.hand.offers ≡ before.hand.offers
  pub none_kept : last.kept.items ≡ []
  pub seen : All (λ h. h.seat.seen ≡ before.seen) holders

-- all seats in one, and what each worker kept, the last one's first
pub record HasTaken (t : TableView) (holders : List Holder) (after : SeatView) (lists : List (List (ℕ × ℕ))) : Type 0 where
  pub others : List Holder
  pub last : Holder
  pub are : holders ≡ others ++ last ∷ []
  pub seat : IsSeatOf t after
  pub shares : after.hand.shares ≡ last.seat.hand.shares + sum_by (λ h. h.seat.hand.shares) others
  pub offers : after.hand.offers ≡ last.seat.hand.offers ++ flat_map (λ h. h.seat.hand.offers) others
  pub kept : lists ≡ last.kept.items ∷ map (λ h. h.kept.items) others
  pub sights : after.hand.sights ≡ last.seat.hand.sights ++ flat_map (λ h. h.seat.hand.sights) others
  pub settled : after.hand.shares ≡ all_shares → IsSettled after.hand.offers
  pub won : after.hand.shares ≡ all_shares → AreWon after.hand.sights after.hand.offers

-- the pairs were offered, each once, by whatever workers; each of these kept those whose offer answered true, by rising rank
pub record HasOffered (t : TableView) (place : ℕ → ℕ) (ps : List (ℕ × ℕ)) (before after : SeatView) (lists : List (List (ℕ × ℕ))) : Type 0 where
  pub made : List Try
  pub each : IsPermutation (map pair_of made) ps
  pub offers : after.hand.offers ≡ before.hand.offers ++ map (offer_of place) made
  pub kept : flat_map (λ l. l) lists ≡ map pair_of (filter answered_true made)
  pub rise : All Rises lists
  pub seat : IsSeatOf t after
  pub whole : after.hand.shares ≡ all_shares
  pub settled : IsSettled after.hand.offers

-- no rank is above a later one
abbrev pub IsByRank : List (ℕ × ℕ) → Type 0
IsByRank ps = AllPairs (λ q r. q.0 ≤ r.0) ps

-- the spans of the chunks have what the workers kept, by rising rank
pub record AreSpans (lists : List (List (ℕ × ℕ))) (spans : List Span) : Type 0 where
  pub within : All (IsWithin lists) spans
  pub same : IsPermutation (flat_map (λ l. l) lists) (flat_map (in_span lists) spans)
  pub in_order : IsByRank (flat_map (in_span lists) spans)

-- after a round the whole seat has one more offer for each pair, at the place of its address, and those that won are listed
pub record IsRound (t : TableView) (place : ℕ → ℕ) (ps : List (ℕ × ℕ)) (before after : SeatView) (list : List (ℕ × ℕ)) : Type 0 where
  pub table : IsSeatOf t after
  pub whole : after.hand.shares ≡ all_shares
  pub offers : AddsOffers place ps before.hand.offers after.hand.offers
  pub won : list ≡ winners place after.hand.offers ps
  pub settled : IsSettled after.hand.offers
