-- The remembered sets where a line is `covered`: they follow from the references.
use Rattle.std.specs.Prelude.{◌≡◌, ◌⊎◌, ◌≤◌, ◌<◌, ◌+◌, ◌-◌, ℕ, true, false, List, [], ◌∷◌, ◌++◌, set, length, map, replicate, slice_index, slice_index_or, Contains}
use Rattle.g1_words.specs.Heap.{Heap, word, regions, objects_in}
use Rattle.g1_words.specs.Valid.{IsValid}
use Rattle.g1_words.specs.declared.object.Object.{Object}
use Rattle.g1_image.specs.Image.{Image, IsImage, used_words}
use Rattle.g1_image.specs.Cards.{exact}
use Rattle.g1_rem.specs.Ahead.{LeadAhead}
use Rattle.g1_text.specs.Content.{Content, IsContentOf}

-- each region remembers exactly the cards of other regions that hold a slot which leads into it
abbrev pub AreExact : Image → Type 0
AreExact i = i.remembered ≡ map (exact i.heap) (regions i.heap)

-- WHAT WAS READ IS THE IMAGE, with a line `covered`: no line tells a remembered card, the image's sets follow from its references,
-- and with these sets the rest is as without that line
pub record IsCoveredContentOf (c : Content) (i : Image) : Type 0 where
  pub covered : c.covered ≡ true
  pub none : c.remembered ≡ replicate c.geometry.n []
  pub exact : AreExact i
  pub rest : IsContentOf (record c { covered = false; remembered = i.remembered }) i

-- what was read is the image, without a line `covered` or with one
abbrev pub IsToldBy : Content → Image → Type 0
IsToldBy c i = IsContentOf c i ⊎ IsCoveredContentOf c i

-- what was read has the regions and the words of this heap, which keeps its rules, and a remembered set for each region
pub record IsHeapOf (c : Content) (h : Heap) : Type 0 where
  pub valid : IsValid h
  pub geometry : c.geometry ≡ h.geometry
  pub regions : c.regions ≡ h.regions
  pub words : c.words ≡ used_words h.geometry.w h.regions h.words
  pub one_each : length c.remembered ≡ h.geometry.n

-- THE SETS THAT `covered` STANDS FOR: the exact ones of the heap, if it keeps its rules. The roots and the log may be any
abbrev pub AreCoverOf : Content → List (List ℕ) → Type 0
AreCoverOf c sets = (h : Heap) → IsHeapOf c h → sets ≡ map (exact h) (regions h)

-- of an image whose sets are exact, each region's list has the cards of the slots so far that lead into the region, and these slots are still ahead
pub record LeadEach (i : Image) (ahead : List ℕ) (sets : List (List ℕ)) : Type 0 where
  pub image : IsImage i
  pub exact : AreExact i
  pub one_each : length sets ≡ i.heap.geometry.n
  pub each : (r : ℕ) → r < i.heap.geometry.n → LeadAhead i r ahead (slice_index_or sets r [])

-- the words of the region's objects stand in the list of words, so many places before their addresses
abbrev pub HasWords : Heap → ℕ → List ℕ → ℕ → Type 0
HasWords h r words unused = (o : Object) (p : ℕ) → Contains (objects_in h r) o → o.at ≤ p → p < o.at + o.size → slice_index words (p - unused) ≡ word h p

-- the card was put at the end of the list, unless it stood there
abbrev pub IsLastNow : List ℕ → ℕ → List ℕ → Type 0
IsLastNow old card new =
    ((0 < length old) × (slice_index old (length old - 1) ≡ card) × (new ≡ old))
    ⊎ ((0 < length old → slice_index old (length old - 1) ≡ card → ⊥) × (new ≡ old ++ card ∷ []))

-- the card was put at the end of the list of one region, unless it stood there
abbrev pub IsAdded : List (List ℕ) → ℕ → ℕ → List (List ℕ) → Type 0
IsAdded old region card new = (set_now : List ℕ) × IsLastNow (slice_index_or old region []) card set_now × (new ≡ set old region set_now)
