-- The laws that public functions of this crate prove.
use Rattle.std.specs.Prelude.{◌≡◌, ◌↔◌, ◌<◌, ◌*◌, ℕ, Bool, false, not, List, [], ◌∷◌, ◌++◌, Contains, length, map, filter}
use Rattle.std.specs.List.{All}
use Rattle.g1_image.specs.Image.{Image, IsImage, card_in}
use Rattle.g1_image.specs.Cards.{refined, Covered}
use Rattle.g1_words.specs.Heap.{Heap}
use Rattle.g1_words.specs.Lists.{has}
use Rattle.g1_words.specs.Survivors.{firsts}
use Rattle.g1_words.specs.Valid.{IsValid}
use Rattle.g1_claim.specs.declared.rule.Offer.{Offer}
use Rattle.g1_frontier.specs.declared.item.Item.{Item}
use Rattle.g1_frontier.specs.Window.{AreRegions, AreCards, AreOutside, LeadIn, place}
use Rattle.g1_frontier.specs.Items.{IsItem, AreRanks, all_pairs}
use Rattle.g1_words.specs.Numbers.{number_at}
use Rattle.g1_frontier.specs.Numbers.{IsNumbering, AreStarts}
use Rattle.g1_frontier.specs.Round.{Rises, AreAbove, AddsOffers, winners}

-- the cards are those of the refined sets of the window's regions, without those that lie in the window
abbrev pub AreRefinedOf : Image → List ℕ → List ℕ → Type 0
AreRefinedOf i window cards = (c : ℕ) → Contains cards c
    ↔ (((r : ℕ) × Contains window r × Contains (refined i r) c) × (card_in i.heap window c ≡ false))

-- the refined sets of a covered image lead into a window
abbrev pub RefinedLeadIn : Type 0
RefinedLeadIn = (i : Image) (window cards : List ℕ) → IsImage i → Covered i → All (λ r. r < i.heap.geometry.n) window → AreRefinedOf i window cards
    → AreOutside i.heap window cards × LeadIn i.heap window cards

-- the refined set of one region leads into it
abbrev pub RefinedLeadsIn : Type 0
RefinedLeadsIn = (i : Image) (r : ℕ) → IsImage i → Covered i → r < i.heap.geometry.n
    → AreCards i.heap (refined i r) × AreOutside i.heap (r ∷ []) (refined i r) × LeadIn i.heap (r ∷ []) (refined i r)

-- what the items reference in the window, by rising rank
abbrev pub referenced : Heap → List ℕ → List Item → List ℕ
referenced h window items = map (λ q. q.1) (all_pairs h window items)

-- the addresses of the items' claims that survive, by rising rank: those whose rank is the least of all offers at their places
abbrev pub survivors_of : Heap → List ℕ → (ℕ → ℕ) → List Item → List Offer → List ℕ
survivors_of h window number items offers = map (λ q. q.1) (winners number offers (all_pairs h window items))

-- a round of items: their ranks rise, above all that were offered before, and for each of them there is one offer more
pub record IsNextRound (h : Heap) (window : List ℕ) (number : ℕ → ℕ) (items : List Item) (before after : List Offer) : Type 0 where
  pub are : All (IsItem h) items
  pub rise : Rises (all_pairs h window items)
  pub ranks : AreRanks (all_pairs h window items)
  pub above : AreAbove before (all_pairs h window items)
  pub adds : AddsOffers number (all_pairs h window items) before after

-- SOME ROUNDS OF CLAIMS, one after another, find these objects, and leave these offers. In each round the items offer by rising ranks,
-- which are above all that were offered before; it finds the addresses of its claims that survive, in the order of their ranks.
pub data Rounds (h : Heap) (window : List ℕ) (number : ℕ → ℕ) : List ℕ → List Offer → Type 0 where
  none : Rounds h window number [] []
  round : (found : List ℕ) (before after : List Offer) (items : List Item) → Rounds h window number found before → IsNextRound h window number items before after
      → Rounds h window number (found ++ survivors_of h window number items after) after

-- the claims of a round that survive are its new objects, in the order of the claims' ranks: those that its items reference in the window
-- and that no earlier round found, each once, in the order in which the items reference them first
abbrev pub RoundFindsNew : Type 0
RoundFindsNew = (h : Heap) (window : List ℕ) (count : ℕ) (number : ℕ → ℕ) (items : List Item) (found : List ℕ) (before after : List Offer)
    → IsValid h → AreRegions h window → IsNumbering h window count number → Rounds h window number found before → IsNextRound h window number items before after
    → survivors_of h window number items after ≡ filter (λ a. not (has found a)) (firsts (referenced h window items))

-- a place for each word of the window, as `claim_round` has it, numbers its objects
abbrev pub WordsNumber : Type 0
WordsNumber = (h : Heap) (window : List ℕ) → IsValid h → AreRegions h window → IsNumbering h window (length window * h.geometry.w) (place h window)

-- and so does a place for each object of it, as `discover` has it
abbrev pub ObjectsNumber : Type 0
ObjectsNumber = (h : Heap) (window : List ℕ) (starts : List Bool) → IsValid h → AreRegions h window → AreStarts h window starts
    → IsNumbering h window (number_at starts (length starts)) (λ a. number_at starts (place h window a))
