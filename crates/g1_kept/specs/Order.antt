-- Which of several losses is the first. First come the sizes, then the regions by number, and then the number of roots. Then a search
-- of both heaps looks at the roots by number, at the objects outside the set by address, and at the copies in the order in which it
-- found them; of an object at the header, at the data words, and then at the slots, by number.
use Rattle.std.specs.Prelude.{◌≡◌, ◌≢◌, ◌<◌, ◌≤◌, ◌⊎◌, ◌+◌, ℕ, zero, suc, Bool, List, length, slice_index, IsTrue}
use Rattle.g1_words.specs.Heap.{Heap, word, object_at}
use Rattle.g1_words.specs.Survivors.{in_set}
use Rattle.g1_same.specs.Walk.{AreAlike, IsEarlier, IsNew}
use Rattle.g1_kept.specs.declared.lost.Lost.{Lost}
use Rattle.g1_kept.specs.declared.lost.Lost.TheVariants as lost
use Rattle.g1_kept.specs.Keeps.{MayHoldCopy, IsOutside, KeepsRegion, KeepsTable}
use Rattle.g1_kept.specs.Lost.{LeadsOut}

-- The objects of a turn. First each word of the heap has a turn: that of an object outside the set and of itself, if one begins there.
-- Then each pair that was found has one: an object of the set and its copy.
abbrev pub IsTurn : List ℕ → Heap → Heap → List ℕ → List ℕ → ℕ → ℕ → ℕ → Type 0
IsTurn set g h olds news t a b =
    ((t < length g.words) × IsOutside set g h t × (a ≡ t) × (b ≡ t))
    ⊎ ((i : ℕ) × (i < length olds) × (t ≡ length g.words + i) × (a ≡ slice_index olds i) × (b ≡ slice_index news i))

-- The two reference words of a place. Place 0 n has root n, and place (t + 1) (n + 1) slot n of the objects of turn t. Place (t + 1) 0
-- has their headers and their data words.
abbrev pub AreWords : List ℕ → Heap → Heap → List ℕ → List ℕ → ℕ → ℕ → ℕ → ℕ → Type 0
AreWords set g h olds news zero n x y = (n < length g.roots) × (n < length h.roots) × (slice_index g.roots n ≡ x) × (slice_index h.roots n ≡ y)
AreWords set g h olds news (suc t) zero x y = ⊥
AreWords set g h olds news (suc t) (suc n) x y =
    (a : ℕ) × (b : ℕ) × IsTurn set g h olds news t a b × (n < (object_at g a).refs) × (n < (object_at h b).refs) × (word g (a + 1 + n) ≡ x) × (word h (b + 1 + n) ≡ y)

-- Two words agree at a place: they are equal and lead out of the set, or reference a pair that was found there or before.
abbrev pub DoAgree : List ℕ → Heap → List ℕ → List ℕ → List ℕ → List ℕ → ℕ → ℕ → ℕ → ℕ → Type 0
DoAgree set g olds news froms numbers f n x y =
    (LeadsOut set g x × (y ≡ x))
    ⊎ ((i : ℕ) × (i < length olds) × (x ≡ suc (slice_index olds i)) × (y ≡ suc (slice_index news i)) × IsEarlier (slice_index froms i) (slice_index numbers i) f (n + 1))

-- What a search has found before a place: objects of the set with their copies. Each pair was found at the place of the first two words
-- that reference it, in the order of the places, and each word and object before the place is as it has to be.
pub record IsSearch (fill : Bool) (set : List ℕ) (g h : Heap) (olds news : List ℕ) (f n : ℕ) : Type 0 where
  pub froms : List ℕ
  pub numbers : List ℕ
  pub pairs : length news ≡ length olds
  pub from_each : length froms ≡ length olds
  pub number_each : length numbers ≡ length olds
  pub of_set : (i : ℕ) → i < length olds → IsTrue (in_set g set (slice_index olds i))
  pub room : (i : ℕ) → i < length olds → MayHoldCopy fill g (slice_index news i)
  pub one_old : (i j : ℕ) → i < length olds → j < length olds → slice_index olds i ≡ slice_index olds j → i ≡ j
  pub one_new : (i j : ℕ) → i < length olds → j < length olds → slice_index news i ≡ slice_index news j → i ≡ j
  pub places : (i : ℕ) → i < length olds
      → AreWords set g h olds news (slice_index froms i) (slice_index numbers i) (suc (slice_index olds i)) (suc (slice_index news i))
  pub backward : (i : ℕ) → i < length olds → slice_index froms i ≤ length g.words + i
  pub rising : (i j : ℕ) → i < j → j < length olds → IsEarlier (slice_index froms i) (slice_index numbers i) (slice_index froms j) (slice_index numbers j)
  pub below : (i : ℕ) → i < length olds → IsEarlier (slice_index froms i) (slice_index numbers i) f n
  pub agree : (k m x y : ℕ) → IsEarlier k m f n → AreWords set g h olds news k m x y → DoAgree set g olds news froms numbers k m x y
  pub alike : (t a b : ℕ) → IsEarlier (suc t) 0 f n → IsTurn set g h olds news t a b → AreAlike g h a b

-- Two words disagree with what was found: a word that is to stay is another one; what led into the set is null; or it references another
-- object after than the copy that was found, or the copy of another object.
pub data Clash (set : List ℕ) (g : Heap) (olds news : List ℕ) : ℕ → ℕ → Type 0 where
  changed : {x y : ℕ} → LeadsOut set g x → y ≢ x → Clash set g olds news x y
  null : {a : ℕ} → IsTrue (in_set g set a) → Clash set g olds news (suc a) 0
  split : {a b : ℕ} (i : ℕ) → IsTrue (in_set g set a) → i < length olds → slice_index olds i ≡ a → slice_index news i ≢ b → Clash set g olds news (suc a) (suc b)
  joined : {a b : ℕ} (i : ℕ) → IsTrue (in_set g set a) → i < length olds → slice_index news i ≡ b → slice_index olds i ≢ a → Clash set g olds news (suc a) (suc b)

-- this is lost at a place, by what was found before
abbrev pub IsLostAt : Bool → List ℕ → Heap → Heap → List ℕ → List ℕ → ℕ → ℕ → Lost → Type 0
IsLostAt fill set g h olds news f n (lost.Root m) = (f ≡ 0) × (n ≡ m) × (x : ℕ) × (y : ℕ) × AreWords set g h olds news f n x y × Clash set g olds news x y
IsLostAt fill set g h olds news f n (lost.Slot a b m) =
    (t : ℕ) × (f ≡ suc t) × (n ≡ suc m) × IsTurn set g h olds news t a b × (x : ℕ) × (y : ℕ) × AreWords set g h olds news f n x y × Clash set g olds news x y
IsLostAt fill set g h olds news f n (lost.Copy a b) =
    AreWords set g h olds news f n (suc a) (suc b) × IsTrue (in_set g set a) × IsNew olds a × IsNew news b × (MayHoldCopy fill g b → ⊥)
IsLostAt fill set g h olds news f n (lost.Header a b) = (t : ℕ) × (f ≡ suc t) × (n ≡ 0) × IsTurn set g h olds news t a b × (word h b ≢ word g a)
IsLostAt fill set g h olds news f n (lost.Data a b k) =
    (t : ℕ) × (f ≡ suc t) × (n ≡ 0) × IsTurn set g h olds news t a b × ((object_at g a).refs + 1 + k < (object_at g a).size)
    × (word h b ≡ word g a) × (word h (b + 1 + (object_at g a).refs + k) ≢ word g (a + 1 + (object_at g a).refs + k))
    × ((j : ℕ) → j < k → word h (b + 1 + (object_at g a).refs + j) ≡ word g (a + 1 + (object_at g a).refs + j))
IsLostAt fill set g h olds news f n _ = ⊥

-- a search meets this loss first
pub record IsMetFirst (fill : Bool) (set : List ℕ) (g h : Heap) (l : Lost) : Type 0 where
  pub olds : List ℕ
  pub news : List ℕ
  pub from : ℕ
  pub number : ℕ
  pub search : IsSearch fill set g h olds news from number
  pub here : IsLostAt fill set g h olds news from number l

-- the heaps have the same sizes, and each region before this one is as it has to be
abbrev pub KeepsBefore : Bool → List ℕ → Heap → Heap → ℕ → Type 0
KeepsBefore fill set g h r = (h.geometry ≡ g.geometry) × ((q : ℕ) → q < r → KeepsRegion fill set g h q)

-- nothing that comes before it is lost
abbrev pub IsEarliestLoss : Bool → List ℕ → Heap → Heap → Lost → Type 0
IsEarliestLoss fill set g h lost.Sizes = Unit {0}
IsEarliestLoss fill set g h (lost.Set r) = KeepsBefore fill set g h r
IsEarliestLoss fill set g h (lost.Region r) = KeepsBefore fill set g h r
IsEarliestLoss fill set g h (lost.Unpinned r) = KeepsBefore fill set g h r
IsEarliestLoss fill set g h (lost.Pinned r) = KeepsBefore fill set g h r
IsEarliestLoss fill set g h lost.Roots = KeepsTable fill set g h
IsEarliestLoss fill set g h l = KeepsTable fill set g h × (length h.roots ≡ length g.roots) × IsMetFirst fill set g h l
