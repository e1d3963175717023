-- A search between two rounds.
use Rattle.std.specs.Prelude.{◌≡◌, ℕ, ◌+◌, ◌<◌, ◌≤◌, List, ◌++◌, map, flat_map, take, length, sum_by, vec_len, Contains}
use Rattle.std.specs.List.{All}
use Rattle.g1_words.specs.Heap.{Heap}
use Rattle.g1_words.specs.Lists.{has}
use Rattle.g1_words.specs.Live.{Reached}
use Rattle.g1_words.specs.Survivors.{seeds, children, firsts}
use Rattle.g1_claim.specs.declared.rule.Offer.{Offer}
use Rattle.g1_claim.specs.Claims.{all_shares, IsSeatOf}
use Rattle.g1_frontier.specs.Numbers.{BeginsIn}
use Rattle.g1_frontier.specs.Scope.{place_in, place_count}
use Rattle.g1_frontier.specs.declared.scope.Scope.{Scope}
use Rattle.g1_frontier.specs.Items.{slot_count}
use Rattle.g1_frontier.specs.declared.survivors.Search.{Search}

-- the places at which there were offers
abbrev pub places_of : List Offer → List ℕ
places_of os = map (λ o. o.place) os

-- between two rounds: the table has a place for each number, and the seat all shares; the places that were offered are the numbers
-- of what was found, by ranks below the next one; what is found stands in order up to what was searched, and is reached
pub record IsSearchBy (h : Heap) (window : List ℕ) (count : ℕ) (number : ℕ → ℕ) (s : Search) : Type 0 where
  pub seat : IsSeatOf s.claims s.seat
  pub whole : s.seat.hand.shares ≡ all_shares
  pub places : s.claims.places ≡ count
  pub claimed : (a : ℕ) → BeginsIn h window a → has (places_of s.seat.hand.offers) (number a) ≡ has s.found.items a
  pub ranks : All (λ o. o.rank < s.next) s.seat.hand.offers
  pub next : s.next ≡ length h.roots + length h.words + sum_by (slot_count h) (take s.from s.found.items)
  pub from : s.from ≤ vec_len s.found
  pub in_order : s.found.items ≡ firsts (seeds h window ++ flat_map (children h window) (take s.from s.found.items))
  pub reached : (a : ℕ) → Contains s.found.items a → Reached (seeds h window) (children h window) a

-- the same in a scope, by its numbering
abbrev pub IsSearching : Scope → Search → Type 0
IsSearching scope s = IsSearchBy scope.heap.now scope.window.now (place_count scope) (place_in scope) s
