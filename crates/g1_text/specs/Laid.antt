-- Where the objects of lines by name are laid, region after region.
use Rattle.std.specs.Prelude.{◌≡◌, ◌≤◌, ◌<◌, ℕ, Bool, List, [], ◌∷◌, ◌++◌, ◌+◌, ◌*◌, ◌^◌, None, length, map, flat_map, slice_index, nat_lt, All, Contains}
use Rattle.std.specs.List.{range_with_len}
use Rattle.g1_words.specs.Geometry.{Geometry, IsWithinBounds}
use Rattle.g1_words.specs.declared.object.Object.{Object}
use Rattle.g1_words.specs.declared.region.Region.{Region}
use Rattle.g1_words.specs.declared.region.Kind.{Kind}
use Rattle.g1_words.specs.declared.region.Kind.TheVariants.{Ordinary, HumongousFirst}
use Rattle.g1_text.specs.declared.placing.Entry.{Entry}
use Rattle.g1_text.specs.Content.{Content, begun}

-- the addresses of the used words of regions, the first of which starts here
abbrev pub used_addresses : ℕ → ℕ → List Region → List ℕ
used_addresses w from [] = []
used_addresses w from (q ∷ qs) = range_with_len from q.top ++ used_addresses w (from + w) qs

-- the addresses of an object's words
abbrev pub own_addresses : Object → List ℕ
own_addresses o = range_with_len o.at o.size

-- objects stand end to end, from one address up to another
abbrev pub EndToEnd : ℕ → List Object → ℕ → Type 0
EndToEnd from [] to = from ≡ to
EndToEnd from (o ∷ os) to = (o.at ≡ from) × EndToEnd (from + o.size) os to

-- these objects start in a region of this kind, with this top, which starts here
abbrev pub StartIn : Kind → ℕ → ℕ → List Object → Type 0
StartIn Ordinary from top os = EndToEnd from os (from + top)
StartIn HumongousFirst from top os = (o : Object) × (os ≡ o ∷ []) × (o.at ≡ from)
StartIn _ from top os = os ≡ []

-- these objects start in the regions, the first of which starts here
abbrev pub StartInEach : ℕ → ℕ → List Region → List Object → Type 0
StartInEach w from [] os = os ≡ []
StartInEach w from (q ∷ qs) os = (first : List Object) × (rest : List Object) × (os ≡ first ++ rest) × StartIn q.kind from q.top first × StartInEach w (from + w) qs rest

-- THE REGIONS HOLD THESE OBJECTS, one after the other, except for so many words of the last one, which no region has yet
pub record AreLaid (g : Geometry) (regions : List Region) (beyond : ℕ) (os : List Object) : Type 0 where
  pub count : length regions ≤ g.n
  pub room : length regions * g.w + beyond ≤ g.n * g.w
  pub tops : All (λ q. q.top ≤ g.w) regions
  pub words : flat_map own_addresses os ≡ used_addresses g.w 0 regions ++ range_with_len (length regions * g.w) beyond
  pub starts : StartInEach g.w 0 regions os

-- what was read of a heap with these regions, and nothing in them
abbrev pub laid_content : Geometry → List Region → ℕ → Content
laid_content g regions beyond = record (begun g None None None) { regions = regions; beyond = beyond }

-- regions hold these objects whole, and nothing else was read
abbrev pub IsLaid : Geometry → List Object → Content → Type 0
IsLaid g os c = (regions : List Region) × AreLaid g regions 0 os × (c ≡ laid_content g regions 0)

-- all regions are there
abbrev pub IsLaidOut : Geometry → List Object → Content → Type 0
IsLaidOut g os c = (regions : List Region) × AreLaid g regions 0 os × (length regions ≡ g.n) × (c ≡ laid_content g regions 0)

-- the size of the object at this place of the lines
abbrev pub size_at : List Entry → ℕ → ℕ
size_at entries k = slice_index (map (λ e. e.size) entries) k

-- the object at this place of the lines, with its address
abbrev pub placed : List Entry → List ℕ → ℕ → Object
placed entries ats k = record { at = slice_index ats k; size = size_at entries k; refs = slice_index (map (λ e. e.slots) entries) k }

-- whether it takes more than three quarters of a region
abbrev pub is_large : Geometry → List Entry → ℕ → Bool
is_large g entries k = nat_lt (3 * g.w) (4 * size_at entries k)

-- an address of a heap
abbrev pub IsAddress : ℕ → Type 0
IsAddress a = a < 2 ^ 60

-- those of the first places whose objects are humongous, or those whose objects are not, were added to the order
pub record ArePassed (g : Geometry) (entries : List Entry) (humongous : Bool) (end : ℕ) (before after : List ℕ) : Type 0 where
  pub more : List ℕ
  pub order : after ≡ before ++ more
  pub places : All (λ k. (k < end) × (is_large g entries k ≡ humongous)) more
  pub all : (k : ℕ) → k < end → is_large g entries k ≡ humongous → Contains more k

-- each place stands in the order, and no other number
pub record AreOrdered (entries : List Entry) (order : List ℕ) : Type 0 where
  pub places : All (λ k. k < length entries) order
  pub all : (k : ℕ) → k < length entries → Contains order k

-- EACH OBJECT HAS A PLACE: the regions hold the objects in this order
pub record ArePlaced (g : Geometry) (entries : List Entry) (ats order : List ℕ) (c : Content) : Type 0 where
  pub bounds : IsWithinBounds g.w g.k g.n
  pub count : length ats ≡ length entries
  pub small : All IsAddress ats
  pub ordered : AreOrdered entries order
  pub laid : IsLaidOut g (map (placed entries ats) order) c
