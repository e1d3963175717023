-- Two rounds of claims over one region: the items of the first are those that a search begins with, and the items of the second are those that it goes on with.
use Rattle.std.proofs.Common.{◌≡◌, ℕ, ◌+◌, ◌*◌, List, [], ◌∷◌, map, length, arith, refl, All, Vec, Global}
use Rattle.std.specs.List.{range_with_len}
use Rattle.std.proofs.lemmas.List.Elements.{All-append, All-cons, All-nil}
use Rattle.g1_words.specs.Heap.{Heap}
use Rattle.g1_words.specs.Valid.{IsValid}
use Rattle.g1_claim.specs.Claims.{TableView, SeatView, IsSeatOf}
use Rattle.g1_frontier.specs.declared.item.Item.TheVariants.{Root, Card, Object}
use Rattle.g1_frontier.specs.declared.survivors.Search.{Search}
use Rattle.g1_frontier.specs.Window.{AreRegions, AreCards, AreOutside, LeadIn, place}
use Rattle.g1_frontier.specs.Items.{IsOutside, all_pairs, first_items, object_items, root_items, slot_count}
use Rattle.g1_frontier.specs.Round.{AddsOffers, winners}
use Rattle.g1_frontier.specs.Search.{IsSearchBy}
use Rattle.g1_frontier.proofs.Numberings.{numbered_by_word}
use Rattle.g1_frontier.proofs.Scopes.{all_map}
use Rattle.g1_frontier.proofs.Searching.{first_search}

pub first_outside : (h : Heap) (window cards : List ℕ) → AreOutside h window cards → All (IsOutside h window) (first_items (length h.roots) cards)
first_outside h window cards outside =
    let n = length h.roots in
    All-append (IsOutside h window) (root_items n) (map (λ c. Card c n) cards)
    (all_map (IsOutside h window) Root (range_with_len 0 n) (λ i k. tt))
    (all_map (IsOutside h window) (λ c. Card c n) cards (λ c k. outside c k))

pub objects_outside : (h : Heap) (window : List ℕ) (base : ℕ) (found : List ℕ) → All (IsOutside h window) (object_items h base found)
objects_outside h window base [] = All-nil (IsOutside h window)
objects_outside h window base (a ∷ rest) = All-cons (IsOutside h window) (Object a base) (object_items h (base + slot_count h a) rest) tt (objects_outside h window (base + slot_count h a) rest)

-- after the first round a search goes on behind the roots and all words
abbrev pub going_on : Heap → TableView → SeatView → Vec ℕ Global → Search
going_on h t s found = record { claims = t; seat = s; found = found; from = 0; next = length h.roots + length h.words }

pub is_going_on : (h : Heap) → IsValid h → (cards : List ℕ) → AreRegions h (1 ∷ []) → AreCards h cards → AreOutside h (1 ∷ []) cards →
    LeadIn h (1 ∷ []) cards → (t : TableView) (s : SeatView) (found : Vec ℕ Global) → IsSeatOf t s → s.hand.shares ≡ 64 → t.places ≡ h.geometry.w →
    AddsOffers (place h (1 ∷ [])) (all_pairs h (1 ∷ []) (first_items (length h.roots) cards)) [] s.hand.offers →
    found.items ≡ map (λ q. q.1) (winners (place h (1 ∷ [])) s.hand.offers (all_pairs h (1 ∷ []) (first_items (length h.roots) cards)))
    → IsSearchBy h (1 ∷ []) (length {A = ℕ} (1 ∷ []) * h.geometry.w) (place h (1 ∷ [])) (going_on h t s found)
is_going_on h valid cards region rising outside lead_in t s found seat whole places adds won =
    first_search h valid (1 ∷ []) cards region rising outside lead_in (length {A = ℕ} (1 ∷ []) * h.geometry.w) (place h (1 ∷ [])) (numbered_by_word h (1 ∷ []) valid region)
    (going_on h t s found) seat whole (omega (arith, places)) adds won refl refl
