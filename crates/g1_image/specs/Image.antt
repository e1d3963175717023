-- An image: a heap, each region's remembered set, the dirty log. Its text.
use Rattle.std.specs.Prelude.{◌≡◌, ◌≢◌, ◌<◌, ◌==◌, ℕ, Bool, true, false, IsFalse, ◌-◌, ◌*◌, ◌/◌, ◌^◌, List, [], ◌∷◌, ◌++◌, length, map, take, drop, replicate, slice_index_or, All, AllPairs}
use Rattle.std.specs.Prelude.{Some, None, unwrap_or, if◌then◌else◌, nat_lt, min}
use Rattle.std.specs.List.Sorted.{IsStrictlyIncreasing}
use Rattle.g1_words.specs.Geometry.{IsWithin}
use Rattle.g1_words.specs.Heap.{Heap, region}
use Rattle.g1_words.specs.declared.limits.Limits.{Limits}
use Rattle.g1_words.specs.declared.limits.Limits.TheVariants.{Specified}
use Rattle.g1_words.specs.Valid.{IsValid}
use Rattle.g1_words.specs.Lists.{has}
use Rattle.g1_words.specs.Kind.{kind_number, kind_of}
pub use Rattle.g1_words.specs.Kind.{MayHoldCards}
use Rattle.g1_image.specs.Text.{File, Entry, Version, file_text}
use Rattle.g1_image.specs.declared.cursor.Version.TheVariants.{One, Two}
use Rattle.g1_words.specs.declared.region.Region.{Region}
use Rattle.g1_words.specs.declared.region.Kind.TheVariants.{Free}

-- a heap, the remembered set of each region, and the dirty log
pub record Image : Type 0 where
  pub heap : Heap
  pub remembered : List (List ℕ)
  pub log : List ℕ

-- the region that a card lies in
abbrev pub region_of_card : Heap → ℕ → ℕ
region_of_card h c = c * h.geometry.k / h.geometry.w

-- the card lies in one of these regions
abbrev pub card_in : Heap → List ℕ → ℕ → Bool
card_in h rs c = has rs (region_of_card h c)

-- the card is one of the heap's, in a region that isn't free
pub record IsUsedCard (h : Heap) (c : ℕ) : Type 0 where
  pub in_heap : c * h.geometry.k < h.geometry.n * h.geometry.w
  pub used : (region h (region_of_card h c)).kind ≢ Free

-- a remembered set that region r may have
pub record IsRememberedSet (h : Heap) (r : ℕ) (cards : List ℕ) : Type 0 where
  pub rising : IsStrictlyIncreasing cards
  pub elsewhere : All (λ c. IsUsedCard h c × (region_of_card h c ≢ r)) cards
  pub count : length cards < 2 ^ 32
  pub owner : 0 < length cards → MayHoldCards (region h r).kind

-- a dirty log that the heap may have
pub record IsLog (h : Heap) (cards : List ℕ) : Type 0 where
  pub used : All (IsUsedCard h) cards
  pub distinct : AllPairs (λ c d. c ≢ d) cards
  pub count : length cards < 2 ^ 32

-- the remembered set of a region
abbrev pub remembered_of : Image → ℕ → List ℕ
remembered_of i r = slice_index_or i.remembered r []

-- the rules of an image
pub record IsImage (i : Image) : Type 0 where
  pub heap : IsValid i.heap
  pub one_each : length i.remembered ≡ i.heap.geometry.n
  pub remembered : (r : ℕ) → r < i.heap.geometry.n → IsRememberedSet i.heap r (remembered_of i r)
  pub log : IsLog i.heap i.log

-- the flags that stand for a region that is pinned or isn't
abbrev pub flags_of : Bool → ℕ
flags_of false = 0
flags_of true = 1

-- a region's entry of the table
abbrev pub entry_of : Region → Entry
entry_of q = record { kind = kind_number q.kind; top = q.top; flags = flags_of q.pinned }

-- the used words, of one region after the other
abbrev pub used_words : ℕ → List Region → List ℕ → List ℕ
used_words w [] words = []
used_words w (q ∷ qs) words = take q.top words ++ used_words w qs (drop w words)

-- what stands in an image's file of this version
abbrev pub file_of : Version → Image → File
file_of v i = record {
  version = v;
  w = i.heap.geometry.w;
  k = i.heap.geometry.k;
  n = i.heap.geometry.n;
  current = unwrap_or i.heap.current i.heap.geometry.n;
  table = map entry_of i.heap.regions;
  roots = i.heap.roots;
  log = i.log;
  remembered = i.remembered;
  words = used_words i.heap.geometry.w i.heap.regions i.heap.words;
}

-- the version can tell what is pinned: version 1 has no pinned regions
abbrev pub CanTell : Version → Heap → Type 0
CanTell One h = All (λ q. IsFalse q.pinned) h.regions
CanTell Two h = Unit {0}

-- THE RELATION: the bytes are the image's text of this version
abbrev pub IsTextIn : Version → List ℕ → Image → Type 0
IsTextIn v bytes i = IsImage i × CanTell v i.heap × (bytes ≡ file_text (file_of v i))

-- the bytes are a text of the image, in one of the versions, and the sizes of its heap are within these limits
abbrev pub IsTextWithin : Limits → List ℕ → Image → Type 0
IsTextWithin limits bytes i = (v : Version) × IsTextIn v bytes i × IsWithin limits i.heap.geometry.w i.heap.geometry.k i.heap.geometry.n

-- the bytes are the text of an image within these limits
abbrev pub IsImageTextWithin : Limits → List ℕ → Type 0
IsImageTextWithin limits bytes = (i : Image) × IsTextWithin limits bytes i

-- the bytes are a text of the image, which is within the limits of the specification
abbrev pub IsTextOf : List ℕ → Image → Type 0
IsTextOf bytes i = IsTextWithin Specified bytes i

-- the regions' words, each region's used words first and zeros after them
abbrev pub all_words : ℕ → List Entry → List ℕ → List ℕ
all_words w [] words = []
all_words w (e ∷ es) words = take (min e.top w) words ++ (replicate (w - e.top) 0 ++ all_words w es (drop e.top words))

-- what an entry of the table tells of its region
abbrev pub region_of_entry : Entry → Region
region_of_entry e = record { kind = kind_of e.kind; top = e.top; pinned = e.flags == 1 }

-- the heap that a file tells
abbrev pub heap_of : File → Heap
heap_of f = record {
  geometry = record { w = f.w; k = f.k; n = f.n };
  words = all_words f.w f.table f.words;
  regions = map region_of_entry f.table;
  roots = f.roots;
  current = if nat_lt f.current f.n then Some f.current else None;
}
