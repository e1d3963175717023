-- What keeps each humongous object: the first reference to it.
use Rattle.std.specs.Prelude.{◌≡◌, ℕ, not, Bool, true, false, ◌&&◌, ◌==◌, nat_lt, List, [], ◌∷◌, ◌++◌, map, filter, length, slice_index_or, Option, None, Some, if◌then◌else◌}
use Rattle.g1_words.specs.Heap.{Heap, kind, start, region_of, regions, is_first}
use Rattle.g1_words.specs.Lists.{has}
use Rattle.g1_image.specs.Image.{region_of_card}
use Rattle.g1_explain.specs.declared.finder.Finder.{Finder}
use Rattle.g1_explain.specs.declared.humongous.Keeper.{Keeper}
use Rattle.g1_explain.specs.declared.humongous.Keeper.TheVariants.{NoObject, Nothing, By}
use Rattle.g1_explain.specs.Finders.{Lead, root_leads, slot_leads, found_leads}
use Rattle.g1_explain.specs.Humongous.{run}
use Rattle.g1_explain.specs.Searched.{card_leads}

-- the references that count for the object that begins in region r, in their order: of the roots, of the slots outside the set and outside the object, of the survivors
abbrev pub leads_to : Heap → List ℕ → List ℕ → ℕ → List Lead
leads_to h set survivors r = filter (λ l. l.target == start h r) (root_leads h ++ (slot_leads h (set ++ run h r) ++ found_leads h survivors (length survivors)))

-- the first of some references, if there is one
abbrev pub first_keeper : List Lead → Keeper
first_keeper [] = Nothing
first_keeper (l ∷ ls) = By l.finder

-- what keeps the humongous object that begins in region r, if one does
abbrev pub keeper_of : Heap → List ℕ → List ℕ → ℕ → Keeper
keeper_of h set survivors r = if is_first (kind h r) then first_keeper (leads_to h set survivors r) else NoObject

-- WHAT KEEPS EACH, by region number
abbrev pub keepers_of : Heap → List ℕ → List ℕ → List Keeper
keepers_of h set survivors = map (keeper_of h set survivors) (regions h)

-- nothing keeps the object
abbrev pub is_nothing : Keeper → Bool
is_nothing NoObject = false
is_nothing Nothing = true
is_nothing (By f) = false

-- ---- one reference after the other

-- the keeper of a region
abbrev pub keeper_at : List Keeper → ℕ → Keeper
keeper_at keepers r = slice_index_or keepers r NoObject

-- what keeps an object, or the first of some references if nothing does
abbrev pub or_first : Keeper → List Lead → Keeper
or_first NoObject ls = NoObject
or_first Nothing ls = first_keeper ls
or_first (By f) ls = By f

-- an object that nothing kept is kept by the first of the references that its region has
pub record AreKept (leads : ℕ → List Lead) (old new : List Keeper) : Type 0 where
  pub one_each : length new ≡ length old
  pub each : (r : ℕ) → keeper_at new r ≡ or_first (keeper_at old r) (leads r)

-- the references that lead into region r
abbrev pub leads_in : Heap → List Lead → ℕ → List Lead
leads_in h ls r = filter (λ l. region_of h l.target == r) ls

-- those that lead to its start
abbrev pub leads_at : Heap → List Lead → ℕ → List Lead
leads_at h ls r = filter (λ l. l.target == start h r) ls

-- the finder keeps the object, or nothing does
abbrev pub kept_by : Option Finder → Keeper
kept_by None = Nothing
kept_by (Some f) = By f

-- the card lies in no region that is marked, and in none of the object that begins in region r
abbrev pub is_apart : Heap → List Bool → ℕ → ℕ → Bool
is_apart h marks r c = not (has (run h r) (region_of_card h c)) && not (slice_index_or marks (region_of_card h c) false)

-- the references to that object from slots on such cards
abbrev pub leads_on : Heap → List Bool → ℕ → List ℕ → List Lead
leads_on h marks r cards = leads_at h (card_leads h (filter (is_apart h marks r) cards)) r

-- by region of the heap, those from slots on the cards of its set
abbrev pub leads_by_cards : Heap → List Bool → List (List ℕ) → ℕ → List Lead
leads_by_cards h marks sets r = if nat_lt r h.geometry.n then leads_on h marks r (slice_index_or sets r []) else []

-- the references of the roots, of those slots and of the survivors that lead to the object of a region
abbrev pub all_leads : Heap → List Bool → List (List ℕ) → List ℕ → ℕ → List Lead
all_leads h marks sets survivors r = leads_in h (root_leads h) r ++ (leads_by_cards h marks sets r ++ leads_in h (found_leads h survivors (length survivors)) r)
