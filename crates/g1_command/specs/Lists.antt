-- The regions that lists name, as 1,2,5-9.
use Rattle.std.specs.Prelude.{◌≡◌, ◌<◌, ◌≤◌, ◌+◌, ◌-◌, ◌++◌, ℕ, List, [], ◌∷◌, ◌==◌, false, length, slice_index_or, flat_map}
use Rattle.std.specs.List.{AllZip, IsDistinct, concat, range_with_len, slice_split}
use Rattle.g1_words.specs.Lists.{has}
use Rattle.clap.specs.Words.{Text}
use Rattle.g1_command.specs.declared.lists.Named.{Named}
use Rattle.g1_command.specs.Values.{Spells}

-- what stands between the commas of a list: its parts
abbrev pub parts_of : Text → List Text
parts_of list = slice_split (λ b. b == 44) list

-- what stands between the dashes of a part: its ends
abbrev pub ends_of : Text → List Text
ends_of part = slice_split (λ b. b == 45) part

-- a text is a region that an image may have
abbrev pub IsRegionOfImage : ℕ → Text → Type 0
IsRegionOfImage r text = Spells 4096 r text

-- the regions from a first one to a last one
abbrev pub rising : ℕ → ℕ → List ℕ
rising first last = range_with_len first (last + 1 - first)

-- the regions between ends: one end is a region alone; two are the first and the last of a range, which rises
abbrev pub AreBetween : List Text → List ℕ → Type 0
AreBetween (a ∷ []) regions = (r : ℕ) × IsRegionOfImage r a × (regions ≡ r ∷ [])
AreBetween (a ∷ b ∷ []) regions = (first : ℕ) × (last : ℕ) × IsRegionOfImage first a × IsRegionOfImage last b × (first ≤ last) × (regions ≡ rising first last)
AreBetween _ regions = ⊥

-- the regions of a part
abbrev pub AreRegionsOfPart : List ℕ → Text → Type 0
AreRegionsOfPart regions part = AreBetween (ends_of part) regions

-- a region is there twice
abbrev pub HasTwice : List ℕ → Type 0
HasTwice regions = IsDistinct (λ a b. a == b) regions → ⊥

-- THE REGIONS THAT LISTS NAME: those of each part, in the order of the parts, none twice
pub record AreRegionsIn (lists : List Text) (regions : List ℕ) : Type 0 where
  pub of_parts : List (List ℕ)
  pub named : AllZip AreRegionsOfPart of_parts (flat_map parts_of lists)
  pub in_order : regions ≡ concat of_parts
  pub once : IsDistinct (λ a b. a == b) regions

-- parts add regions behind those that are there
abbrev pub AddsParts : List Text → List ℕ → List ℕ → Type 0
AddsParts [] old new = old ≡ new
AddsParts (part ∷ parts) old new = (own : List ℕ) × AreRegionsOfPart own part × AddsParts parts (old ++ own) new

-- parts add no regions: one of them names none, or a region would be there twice
abbrev pub AddNone : List Text → List ℕ → Type 0
AddNone parts old = (new : List ℕ) → AddsParts parts old new → HasTwice new

-- regions, none twice, and marks of those that are there
pub record IsNamed (named : Named) : Type 0 where
  pub once : IsDistinct (λ a b. a == b) named.regions.items
  pub room : length named.seen ≡ 4096
  pub marked : (r : ℕ) → r < 4096 → slice_index_or named.seen r false ≡ has named.regions.items r

-- regions were added, and their marks
abbrev pub AddsRegions : List ℕ → Named → Named → Type 0
AddsRegions more old new = (new.regions.items ≡ old.regions.items ++ more) × IsNamed new
