-- What lines say of an image, without the numbers of the lines.
use Rattle.std.specs.Prelude.{◌≡◌, ◌≤◌, ◌<◌, ℕ, Bool, false, List, [], ◌∷◌, ◌++◌, ◌+◌, ◌-◌, ◌*◌, ◌^◌, Option, Some, None, length, map, min, replicate, decimal, codes, slice_index_or, set, unwrap_or, All, IsTrue, IfSome}
use Rattle.g1_words.specs.Geometry.{Geometry, IsWithinBounds, most_roots}
use Rattle.g1_words.specs.Kind.{kind_word, MayHoldCards}
use Rattle.g1_words.specs.Heap.{free_region}
use Rattle.g1_words.specs.declared.region.Region.{Region}
use Rattle.g1_words.specs.declared.region.Kind.{Kind}
use Rattle.g1_words.specs.declared.region.Kind.TheVariants.{Ordinary, HumongousFirst, Continuation}
use Rattle.g1_image.specs.Text.{File}
use Rattle.g1_image.specs.Image.{Image, IsImage, entry_of, file_of}
use Rattle.g1_image.specs.declared.cursor.Version.TheVariants.{Two}
use Rattle.g1_text.specs.Reading.{HasLines}
use Rattle.g1_text.specs.Lines.{root_line, reference_word, current_word, cards_words, pinned_words}

-- the counts in a region's line, and how many objects' lines followed it
pub record Counts : Type 0 where
  pub region : ℕ
  pub top : Option ℕ
  pub objects : Option ℕ
  pub cards : Option ℕ
  pub found : ℕ

-- what lines have said: the counts of the heading, the parts of the image, the words of a humongous object
-- that no region has yet, the counts of each region's line, and the address of each object
pub record Content : Type 0 where
  pub geometry : Geometry
  pub current : Option ℕ
  pub root_count : Option ℕ
  pub dirty_count : Option ℕ
  pub roots : List ℕ
  pub log : List ℕ
  pub regions : List Region
  pub remembered : List (List ℕ)
  pub words : List ℕ
  pub beyond : ℕ
  pub covered : Bool
  pub counts : List Counts
  pub addresses : List ℕ

-- the numbers of an image file that say the same
abbrev pub file_with : Content → File
file_with c = record {
  version = Two;
  w = c.geometry.w;
  k = c.geometry.k;
  n = c.geometry.n;
  current = unwrap_or c.current c.geometry.n;
  table = map entry_of c.regions;
  roots = c.roots;
  log = c.log;
  remembered = c.remembered;
  words = c.words;
}

-- a line below the heading: a root by number, logged cards, the numbers of a region, a region's remembered cards, or an
-- object by address with its slots' words and its data words
pub data Line : Type 0 where
  Root : ℕ → ℕ → Line
  Dirty : List ℕ → Line
  Numbers : ℕ → Kind → ℕ → ℕ → ℕ → Bool → Line
  Remembered : ℕ → List ℕ → Line
  Holds : ℕ → List ℕ → List ℕ → Line

-- how many words an object with these slots and data words has
abbrev pub size_with : List ℕ → List ℕ → ℕ
size_with slots values = length slots + length values + 1

-- the words of a line
abbrev pub words_of : Line → List (List ℕ)
words_of (Root m x) = root_line m x
words_of (Dirty cards) = codes "dirty" ∷ cards_words cards
words_of (Numbers r k t o m p) =
    codes "region" ∷ decimal r ∷ kind_word k ∷ codes "top" ∷ decimal t ∷ codes "objects" ∷ decimal o ∷ codes "cards" ∷ decimal m ∷ pinned_words p
words_of (Remembered r cards) = codes "remembered" ∷ decimal r ∷ cards_words cards
words_of (Holds at slots values) =
    codes "object" ∷ decimal at ∷ (decimal (size_with slots values) ++ 47 ∷ decimal (length slots)) ∷ (map reference_word slots ++ map decimal values)

-- a region of this kind may be the next one: a continuation if a humongous object goes on, and no other if one does
abbrev pub MayFollow : Content → Kind → Type 0
MayFollow c Continuation = 0 < c.beyond
MayFollow c _ = c.beyond ≡ 0

-- the used words of the next region before any object's line: those in which the humongous object goes on
abbrev pub words_beyond : Content → Kind → ℕ
words_beyond c Continuation = min c.geometry.w c.beyond
words_beyond c _ = 0

-- what is said with a next region of this kind, which is not pinned
abbrev pub with_region : Content → Kind → Content
with_region c k = record c { regions = c.regions ++ record { kind = k; top = words_beyond c k; pinned = false } ∷ []; beyond = c.beyond - words_beyond c k }

-- region r, of this kind and with this top, has room for an object of this size
abbrev pub HasSpace : Kind → Geometry → ℕ → ℕ → ℕ → Type 0
HasSpace Ordinary g r t size = (4 * size ≤ 3 * g.w) × (t + size ≤ g.w)
HasSpace HumongousFirst g r t size = (t ≡ 0) × (3 * g.w < 4 * size) × (r * g.w + size ≤ g.n * g.w)
HasSpace _ g r t size = ⊥

-- its top behind the object
abbrev pub top_behind : Kind → Geometry → ℕ → ℕ → ℕ
top_behind HumongousFirst g t size = min g.w size
top_behind _ g t size = t + size

-- the words of the object that no region has yet
abbrev pub beyond_behind : Kind → Geometry → ℕ → ℕ → ℕ
beyond_behind HumongousFirst g beyond size = size - g.w
beyond_behind _ g beyond size = beyond

-- an object was read in the region
abbrev pub one_found : Counts → Counts
one_found t = record t { found = t.found + 1 }

-- WHAT A LINE ADDS to what the lines above it said
abbrev pub Takes : Content → Line → Content → Type 0
Takes c (Root m x) d = (m ≡ length c.roots) × (m < most_roots) × (x < 2 ^ 64) × (d ≡ record c { roots = c.roots ++ x ∷ [] })
Takes c (Dirty cards) d = All (λ x. x < 2 ^ 32) cards × (d ≡ record c { log = c.log ++ cards })
Takes c (Numbers r k t o m p) d =
    (r ≡ length c.regions) × (r < c.geometry.n) × (r < 2 ^ 64) × MayFollow c k × (t < 2 ^ 64) × (o < 2 ^ 64) × (m < 2 ^ 64) × (IsTrue p → k ≡ Ordinary)
    × (d ≡ record c {
      regions = c.regions ++ record { kind = k; top = words_beyond c k; pinned = p } ∷ [];
      beyond = c.beyond - words_beyond c k;
      counts = c.counts ++ record { region = r; top = Some t; objects = Some o; cards = Some m; found = 0 } ∷ [];
    })
Takes c (Remembered r cards) d =
    (r < length c.remembered) × (r < 2 ^ 64) × All (λ x. x < 2 ^ 32) cards × (d ≡ record c { remembered = set c.remembered r (slice_index_or c.remembered r [] ++ cards) })
Takes c (Holds at slots values) d =
    (below : List Region) × (q : Region) × (earlier : List Counts) × (last : Counts)
    × (c.regions ≡ below ++ q ∷ []) × (c.counts ≡ earlier ++ last ∷ []) × (length below < c.geometry.n)
    × (at ≡ length below * c.geometry.w + q.top) × (at < 2 ^ 64) × HasSpace q.kind c.geometry (length below) q.top (size_with slots values)
    × (size_with slots values < 2 ^ 32) × All (λ x. x < 2 ^ 64) slots × All (λ x. x < 2 ^ 64) values × (last.found + 1 < 2 ^ 64)
    × (d ≡ record c {
      regions = below ++ record q { top = top_behind q.kind c.geometry q.top (size_with slots values) } ∷ [];
      beyond = beyond_behind q.kind c.geometry c.beyond (size_with slots values);
      words = c.words ++ (size_with slots values * 2 ^ 32 + length slots) ∷ (slots ++ values);
      counts = earlier ++ one_found last ∷ [];
      addresses = c.addresses ++ at ∷ [];
    })

-- what lines add, one after the other
abbrev pub Adds : Content → List Line → Content → Type 0
Adds c [] d = c ≡ d
Adds c (line ∷ lines) d = (e : Content) × Takes c line e × Adds e lines d

-- what a heading alone says
abbrev pub begun : Geometry → Option ℕ → Option ℕ → Option ℕ → Content
begun g current roots dirty = record {
  geometry = g;
  current = current;
  root_count = roots;
  dirty_count = dirty;
  roots = [];
  log = [];
  regions = [];
  remembered = replicate g.n [];
  words = [];
  beyond = 0;
  covered = false;
  counts = [];
  addresses = [];
}

-- heap W K N roots R dirty D current C
abbrev pub heading_words : Geometry → ℕ → ℕ → Option ℕ → List (List ℕ)
heading_words g roots dirty current =
    codes "heap" ∷ decimal g.w ∷ decimal g.k ∷ decimal g.n ∷ codes "roots" ∷ decimal roots ∷ codes "dirty" ∷ decimal dirty ∷ codes "current" ∷ current_word current ∷ []

-- the words are a heading, and this is what it says
pub record Begins (words : List (List ℕ)) (c : Content) : Type 0 where
  pub geometry : Geometry
  pub current : Option ℕ
  pub roots : ℕ
  pub dirty : ℕ
  pub limits : IsWithinBounds geometry.w geometry.k geometry.n
  pub region : IfSome current (λ r. r < 2 ^ 32)
  pub root_count : roots < 2 ^ 64
  pub dirty_count : dirty < 2 ^ 64
  pub line : words ≡ heading_words geometry roots dirty current
  pub says : c ≡ begun geometry current (Some roots) (Some dirty)

-- WHAT THE NEXT LINE SAYS, the first one of all or one below others
abbrev pub Says : Option Content → List (List ℕ) → Content → Type 0
Says None words d = Begins words d
Says (Some c) words d = (line : Line) × (words ≡ words_of line) × Takes c line d

-- what lines say, one after the other
abbrev pub SaysAll : Option Content → List (List (List ℕ)) → Option Content → Type 0
SaysAll before [] after = before ≡ after
SaysAll before (line ∷ lines) after = (c : Content) × Says before line c × SaysAll (Some c) lines after

-- each region was said, and no humongous object goes on
abbrev pub IsClosed : Content → Type 0
IsClosed c = (c.beyond ≡ 0) × (c.geometry.n ≤ length c.regions)

-- a count in a line, if there is one, is this number
abbrev pub IsCount : Option ℕ → ℕ → Type 0
IsCount told n = IfSome told (λ m. m ≡ n)

-- the region of a number, as far as lines have come
abbrev pub region_said : Content → ℕ → Region
region_said c r = slice_index_or c.regions r free_region

-- the counts in a region's line are those of what was read, and a region that may hold cards, where objects start, has one
pub record CountsAgree (c : Content) (t : Counts) : Type 0 where
  pub region : t.region < length c.regions
  pub holds : MayHoldCards (region_said c t.region).kind → 0 < t.found
  pub top : IsCount t.top (region_said c t.region).top
  pub objects : IsCount t.objects t.found
  pub cards : IsCount t.cards (length (slice_index_or c.remembered t.region []))

-- ALL COUNTS AGREE, and the current region is an ordinary one
pub record Agrees (c : Content) : Type 0 where
  pub roots : IsCount c.root_count (length c.roots)
  pub dirty : IsCount c.dirty_count (length c.log)
  pub current : IfSome c.current (λ r. (r < length c.regions) × ((region_said c r).kind ≡ Ordinary))
  pub regions : All (CountsAgree c) c.counts

-- WHAT WAS READ IS THE IMAGE: all counts agree, and its file has the same numbers
pub record IsContentOf (c : Content) (i : Image) : Type 0 where
  pub image : IsImage i
  pub agrees : Agrees c
  pub uncovered : c.covered ≡ false
  pub same : file_with c ≡ file_of Two i

-- A TEXT SAYS AN IMAGE: its lines say all of it, one after the other
pub record SaysImage (text : List ℕ) (i : Image) : Type 0 where
  pub lines : List (List (List ℕ))
  pub content : Content
  pub has : HasLines text lines
  pub says : SaysAll None lines (Some content)
  pub closed : IsClosed content
  pub is : IsContentOf content i
