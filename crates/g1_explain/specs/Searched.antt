-- A search that is gone over again, to see what finds each object.
use Rattle.std.specs.Prelude.{◌≡◌, ◌<◌, ◌≤◌, ◌⊎◌, ℕ, suc, Bool, ◌&&◌, ◌==◌, if◌then◌else◌, nat_lt, List, [], ◌∷◌, ◌++◌, flat_map, length, slice_index, slice_index_or, Contains}
use Rattle.std.specs.List.{All, range_with_len}
use Rattle.g1_words.specs.Heap.{Heap, word, objects, object_at}
use Rattle.g1_words.specs.Survivors.{Survivors}
use Rattle.g1_rem.specs.Slots.{slots_on}
use Rattle.g1_frontier.specs.Window.{AreCards, AreOutside, LeadIn}
use Rattle.g1_explain.specs.declared.finder.Finder.{Finder}
use Rattle.g1_explain.specs.declared.finder.Finder.TheVariants.{Root, Card, Object as Slot}
use Rattle.g1_explain.specs.declared.paths.Leg.{Leg}
use Rattle.g1_explain.specs.Finders.{Lead, lead, root_leads, found_leads}

-- all addresses are those of objects
abbrev pub AreObjects : Heap → List ℕ → Type 0
AreObjects h found = All (λ a. Contains (objects h) (object_at h a)) found

-- the address is that of the next object, of which n were found
abbrev pub is_next : List ℕ → ℕ → ℕ → Bool
is_next found n a = nat_lt n (length found) && (slice_index found n == a)

-- finders with those of the objects that further references are the first to lead to
abbrev pub met : List ℕ → List Finder → List Lead → List Finder
met found fs [] = fs
met found fs (l ∷ ls) = met found (if is_next found (length fs) l.target then fs ++ l.finder ∷ [] else fs) ls

-- the references of the slots on some cards
abbrev pub card_leads : Heap → List ℕ → List Lead
card_leads h cards = flat_map (λ c. flat_map (λ p. lead (Card c p) (word h p)) (slots_on h c)) cards

-- those of an object by its slots
abbrev pub slots_leads : ℕ → ℕ → List ℕ → List Lead
slots_leads m a slots = flat_map (λ s. lead (Slot m a s) (slice_index slots s)) (range_with_len 0 (length slots))

-- the finders are those that a search meets over the slots of its first objects
abbrev pub AreMet : Heap → List ℕ → List ℕ → List Finder → Type 0
AreMet h cards found fs = (m : ℕ) × (m ≤ length found) × (fs ≡ met found [] (root_leads h ++ (card_leads h cards ++ found_leads h found m)))

-- as many finders as are wanted, or all that a search meets
abbrev pub AreEnough : Heap → List ℕ → List ℕ → ℕ → List Finder → Type 0
AreEnough h cards found wanted fs = (wanted ≤ length fs) ⊎ (fs ≡ met found [] (root_leads h ++ (card_leads h cards ++ found_leads h found (length found))))

-- the finder of the object at a place
abbrev pub finder_at : List Finder → ℕ → Finder
finder_at fs j = slice_index_or fs j (Root 0)

-- 1 more than the place of the object whose slot it is, or 0
abbrev pub before : Finder → ℕ
before (Root k) = 0
before (Card c p) = 0
before (Slot m a s) = suc m

-- the legs of a path, the last of which leads to the object before this place
pub data IsRoute (h : Heap) (found : List ℕ) (fs : List Finder) : ℕ → List Leg → Type 0 where
  none : IsRoute h found fs 0 []
  leg : (j : ℕ) (legs : List Leg) → j < length fs → j < length found → IsRoute h found fs (before (finder_at fs j)) legs
      → IsRoute h found fs (suc j) (legs ++ record { object = object_at h (slice_index found j); finder = finder_at fs j } ∷ [])

-- the legs of a path to the object at an address, by finders that the search meets
pub record IsFoundPath (h : Heap) (cards found : List ℕ) (a : ℕ) (legs : List Leg) : Type 0 where
  pub finders : List Finder
  pub are_met : AreMet h cards found finders
  pub place : ℕ
  pub within : place < length found
  pub at : slice_index found place ≡ a
  pub route : IsRoute h found finders (suc place) legs

-- a search of a set finds these objects, from cards that lead into it
pub record IsSearch (h : Heap) (set cards found : List ℕ) : Type 0 where
  pub rising : AreCards h cards
  pub outside : AreOutside h set cards
  pub lead_in : LeadIn h set cards
  pub survivors : Survivors h set found
