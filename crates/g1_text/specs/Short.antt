-- The short lines of an image: what follows from the lines above them is left out.
use Rattle.std.specs.List.{AllZip}
use Rattle.std.specs.Prelude.{◌≡◌, ◌⊎◌, ◌≤◌, ◌<◌, ◌+◌, ◌-◌, ◌^◌, ℕ, zero, suc, Bool, true, Option, Some, None, List, [], ◌∷◌, ◌++◌, length, take, drop, replicate, codes, All, IsTrue, IfSome}
use Rattle.g1_words.specs.Geometry.{Geometry, IsWithinBounds}
use Rattle.g1_words.specs.Heap.{free_region}
use Rattle.g1_words.specs.Kind.{kind_word}
use Rattle.g1_words.specs.declared.region.Kind.{Kind}
use Rattle.g1_words.specs.declared.region.Kind.TheVariants.{Ordinary, Continuation}
use Rattle.g1_image.specs.Image.{Image}
use Rattle.g1_text.specs.Reading.{HasLines}
use Rattle.g1_text.specs.Lines.{pinned_words}
use Rattle.g1_text.specs.Forms.{Form, Spells, Denotes, HasSize, StandsFor, Word, Single, ◌▸◌}
use Rattle.g1_text.specs.Covered.{IsToldBy}
use Rattle.g1_text.specs.Content.{Content, Root, Dirty, Remembered, Holds, Takes, MayFollow, IsCount, words_beyond, with_region, begun, size_with}

-- a line below the heading: None is a number that is left out. An object's line may have only so many of its words before `..`
pub data Short : Type 0 where
  RootAs : Option ℕ → ℕ → Short
  DirtyAs : List ℕ → Short
  Covered : Short
  RegionAs : Option ℕ → Kind → Option ℕ → Option ℕ → Option ℕ → Bool → Short
  RememberedAs : ℕ → List ℕ → Short
  ObjectAs : Option ℕ → List ℕ → List ℕ → Option ℕ → Short

-- THE WORDS OF SHORT LINES: any digits that say a number, and any form of a data word that stands for it

-- a number, or no word if it is left out
abbrev pub TellsNumber : Option ℕ → Form
TellsNumber None words = words ≡ []
TellsNumber (Some n) words = Single (Spells (2 ^ 64) n) words

-- a word and the number behind it, or neither
abbrev pub TellsLabelled : List ℕ → Option ℕ → Form
TellsLabelled word None words = words ≡ []
TellsLabelled word (Some n) words = (Word word ▸ Single (Spells (2 ^ 64) n)) words

-- [top WORDS] [objects COUNT] [cards COUNT]
abbrev pub TellsCounts : Option ℕ → Option ℕ → Option ℕ → Form
TellsCounts t o m = TellsLabelled (codes "top") t ▸ TellsLabelled (codes "objects") o ▸ TellsLabelled (codes "cards") m

-- [pinned]
abbrev pub TellsPinned : Bool → Form
TellsPinned p words = words ≡ pinned_words p

-- cards CARD ..
abbrev pub TellsCards : List ℕ → Form
TellsCards cards = Word (codes "cards") ▸ AllZip (Spells (2 ^ 32)) cards

-- all these words, or the first ones and `..`
abbrev pub abridged : List (List ℕ) → Option ℕ → List (List ℕ)
abridged words None = words
abridged words (Some n) = take n words ++ codes ".." ∷ []

-- REFERENCE .. WORD .. [..]
abbrev pub TellsContent : List ℕ → List ℕ → Option ℕ → Form
TellsContent slots values given words =
    (references data_words : List (List ℕ)) × AllZip Denotes slots references × AllZip StandsFor values data_words × (words ≡ abridged (references ++ data_words) given)

-- THE WORDS ARE A SHORT LINE
abbrev pub IsShortLine : Short → Form
IsShortLine (RootAs m x) = Word (codes "root") ▸ TellsNumber m ▸ Single (Denotes x)
IsShortLine (DirtyAs cards) = Word (codes "dirty") ▸ TellsCards cards
IsShortLine Covered = Word (codes "covered")
IsShortLine (RegionAs r k t o m p) = Word (codes "region") ▸ TellsNumber r ▸ Word (kind_word k) ▸ TellsCounts t o m ▸ TellsPinned p
IsShortLine (RememberedAs r cards) = Word (codes "remembered") ▸ Single (Spells (2 ^ 64) r) ▸ TellsCards cards
IsShortLine (ObjectAs at slots values given) = Word (codes "object") ▸ TellsNumber at ▸ Single (HasSize (size_with slots values) (length slots)) ▸ TellsContent slots values given

-- all words from a place on are 0, if the first ones stand before `..`
abbrev pub IsZeroFrom : Option ℕ → List ℕ → Type 0
IsZeroFrom given words = IfSome given (λ n. All (λ x. x ≡ 0) (drop n words))

-- the next regions have no line: in each of them the humongous object above goes on
abbrev pub GoesOn : Content → ℕ → Content → Type 0
GoesOn c zero d = c ≡ d
GoesOn c (suc n) d = (0 < c.beyond) × GoesOn (with_region c Continuation) n d

-- REGIONS WITHOUT LINES: first those in which the humongous object goes on, and then free ones, if it has ended
pub record Skips (c : Content) (on free : ℕ) (d : Content) : Type 0 where
  pub middle : Content
  pub goes_on : GoesOn c on middle
  pub whole : 0 < free → middle.beyond ≡ 0
  pub adds : d ≡ record middle { regions = middle.regions ++ replicate free free_region }

-- a number in a region's line may skip regions. Without one, the line is that of the next region, and of the next one behind a humongous object if it is no continuation
abbrev pub MaySkip : Option ℕ → Kind → ℕ → ℕ → Type 0
MaySkip (Some r) k on free = Unit {0}
MaySkip None Continuation on free = (on ≡ 0) × (free ≡ 0)
MaySkip None _ on free = free ≡ 0

-- WHAT A SHORT LINE ADDS to what the lines above it said: a root or an object what the full line with its number would add
abbrev pub Gives : Content → Short → Content → Type 0
Gives c (RootAs m x) d = (n : ℕ) × IsCount m n × Takes c (Root n x) d
Gives c (DirtyAs cards) d = Takes c (Dirty cards) d
Gives c Covered d = d ≡ record c { covered = true }
Gives c (RegionAs r k t o m p) d =
    (on free : ℕ) × (e : Content) × MaySkip r k on free × Skips c on free e
    × IsCount r (length e.regions) × (length e.regions < e.geometry.n) × MayFollow e k × (IsTrue p → k ≡ Ordinary)
    × (d ≡ record e {
      regions = e.regions ++ record { kind = k; top = words_beyond e k; pinned = p } ∷ [];
      beyond = e.beyond - words_beyond e k;
      counts = e.counts ++ record { region = length e.regions; top = t; objects = o; cards = m; found = 0 } ∷ [];
    })
Gives c (RememberedAs r cards) d = Takes c (Remembered r cards) d
Gives c (ObjectAs at slots values given) d = (n : ℕ) × IsCount at n × Takes c (Holds n slots values) d × IsZeroFrom given (slots ++ values)

-- `none`, or the number of a region
abbrev pub NamesRegion : Option ℕ → List ℕ → Type 0
NamesRegion None word = word ≡ codes "none"
NamesRegion (Some r) word = Spells (2 ^ 32) r word

-- [current none|C]
abbrev pub TellsCurrent : Option ℕ → Form
TellsCurrent current words = (Word (codes "current") ▸ Single (NamesRegion current)) words ⊎ ((current ≡ None) × (words ≡ []))

-- [roots R] [dirty D] [current none|C]
abbrev pub TellsBehind : Option ℕ → Option ℕ → Option ℕ → Form
TellsBehind roots dirty current = TellsLabelled (codes "roots") roots ▸ TellsLabelled (codes "dirty") dirty ▸ TellsCurrent current

-- W K N
abbrev pub TellsSizes : ℕ → ℕ → ℕ → Form
TellsSizes w k n = Single (Spells (2 ^ 64) w) ▸ Single (Spells (2 ^ 64) k) ▸ Single (Spells (2 ^ 64) n)

-- the words are a short heading, heap W K N [roots R] [dirty D] [current none|C], and this is what it says: no current region, if it names none
pub record BeginsShort (words : List (List ℕ)) (c : Content) : Type 0 where
  pub geometry : Geometry
  pub current : Option ℕ
  pub roots : Option ℕ
  pub dirty : Option ℕ
  pub limits : IsWithinBounds geometry.w geometry.k geometry.n
  pub line : (Word (codes "heap") ▸ TellsSizes geometry.w geometry.k geometry.n ▸ TellsBehind roots dirty current) words
  pub says : c ≡ begun geometry current roots dirty

-- WHAT THE NEXT LINE TELLS, short or in full, the first one of all or one below others
abbrev pub Tells : Option Content → List (List ℕ) → Content → Type 0
Tells None words d = BeginsShort words d
Tells (Some c) words d = (line : Short) × IsShortLine line words × Gives c line d

-- what lines tell, one after the other
abbrev pub TellsAll : Option Content → List (List (List ℕ)) → Option Content → Type 0
TellsAll before [] after = before ≡ after
TellsAll before (line ∷ lines) after = (c : Content) × Tells before line c × TellsAll (Some c) lines after

-- what is told once all lines are read: the last humongous object goes on in the next regions, and all regions behind it are free
abbrev pub Closes : Content → Content → Type 0
Closes c d = (on : ℕ) × (on ≤ c.geometry.n) × Skips c on (c.geometry.n - (length c.regions + on)) d × (d.beyond ≡ 0)

-- A TEXT TELLS AN IMAGE: its lines, short or in full, tell all of it, one after the other
pub record TellsImage (text : List ℕ) (i : Image) : Type 0 where
  pub lines : List (List (List ℕ))
  pub told : Content
  pub content : Content
  pub has : HasLines text lines
  pub tells : TellsAll None lines (Some told)
  pub closed : Closes told content
  pub is : IsToldBy content i
