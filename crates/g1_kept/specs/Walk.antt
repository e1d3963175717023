-- What the walk over both heaps has found.
use Rattle.std.specs.Prelude.{◌≡◌, ◌≢◌, ◌<◌, ◌≤◌, ◌⊎◌, ◌+◌, ℕ, suc, Bool, List, length, slice_index, Contains, IsTrue, IsFalse}
use Rattle.g1_words.specs.Lists.{has}
use Rattle.g1_words.specs.declared.region.Kind.TheVariants.{Free}
use Rattle.g1_words.specs.Heap.{Heap, kind, word, object_at, objects, objects_in}
use Rattle.g1_words.specs.Survivors.{in_set}
use Rattle.g1_same.specs.Walk.{IsIndex, IsNew, AreAlike}
use Rattle.g1_kept.specs.declared.lost.Lost.{Lost}
use Rattle.g1_kept.specs.declared.lost.Lost.TheVariants as lost
use Rattle.g1_kept.specs.declared.pairs.Pairs.{Pairs}
use Rattle.g1_kept.specs.declared.linking.Met.{Met}
use Rattle.g1_kept.specs.declared.linking.Met.TheVariants.{Agree, Differ, Occupied, New}
use Rattle.g1_kept.specs.Keeps.{MayHoldCopy}
use Rattle.g1_kept.specs.Lost.{Match, LeadsOut, Disagree}
use Rattle.g1_kept.specs.Order.{IsTurn, AreWords, IsSearch, Clash, IsLostAt, IsMetFirst}

-- The pairs are objects of the set and of the heap after that match, found by the tables, each where a copy may be.
pub record IsPairWalk (fill : Bool) (set : List ℕ) (g h : Heap) (w : Pairs) : Type 0 where
  pub table_before : length w.new_of.items ≡ length g.words
  pub table_after : length w.old_of.items ≡ length h.words
  pub index_before : IsIndex w.new_of.items w.before.items
  pub index_after : IsIndex w.old_of.items w.after.items
  pub pairs : length w.after.items ≡ length w.before.items
  pub names_before : (i : ℕ) → i < length w.before.items → Contains (objects g) (object_at g (slice_index w.before.items i))
  pub names_after : (i : ℕ) → i < length w.before.items → Contains (objects h) (object_at h (slice_index w.after.items i))
  pub of_set : (i : ℕ) → i < length w.before.items → IsTrue (in_set g set (slice_index w.before.items i))
  pub room : (i : ℕ) → i < length w.before.items → MayHoldCopy fill g (slice_index w.after.items i)
  pub matched : (i : ℕ) → i < length w.before.items → Match set g h (slice_index w.before.items i) (slice_index w.after.items i)

-- the walk has all pairs that it had, each in its place
pub record HasMorePairs (w v : Pairs) : Type 0 where
  pub more : length w.before.items ≤ length v.before.items
  pub olds : (i : ℕ) → i < length w.before.items → slice_index v.before.items i ≡ slice_index w.before.items i
  pub news : (i : ℕ) → i < length w.before.items → slice_index v.after.items i ≡ slice_index w.after.items i

-- the words are equal and lead out of the set, or reference a pair that was found
abbrev pub ArePaired : List ℕ → Heap → Pairs → ℕ → ℕ → Type 0
ArePaired set g w x y =
    (LeadsOut set g x × (y ≡ x))
    ⊎ ((i : ℕ) × (i < length w.before.items) × (x ≡ suc (slice_index w.before.items i)) × (y ≡ suc (slice_index w.after.items i)))

-- what two words are to the walk
abbrev pub IsPairMet : Bool → List ℕ → Heap → Heap → Pairs → ℕ → ℕ → Met → Type 0
IsPairMet fill set g h w x y Agree = ArePaired set g w x y
IsPairMet fill set g h w x y Differ = Disagree set g h x y × Clash set g w.before.items w.after.items x y
IsPairMet fill set g h w x y (Occupied a b) =
    (x ≡ suc a) × (y ≡ suc b) × IsTrue (in_set g set a) × (MayHoldCopy fill g b → ⊥) × IsNew w.before.items a × IsNew w.after.items b
IsPairMet fill set g h w x y (New a b) =
    (x ≡ suc a) × (y ≡ suc b) × IsTrue (in_set g set a) × MayHoldCopy fill g b × (slice_index w.new_of.items a ≡ 0) × (slice_index w.old_of.items b ≡ 0)

-- the first roots are paired
abbrev pub PairsRoots : List ℕ → Heap → Heap → Pairs → ℕ → Type 0
PairsRoots set g h w k = (n : ℕ) → n < k → ArePaired set g w (slice_index g.roots n) (slice_index h.roots n)

-- the first slots of two objects are paired
abbrev pub PairsSlots : List ℕ → Heap → Heap → Pairs → ℕ → ℕ → ℕ → Type 0
PairsSlots set g h w a b k = (n : ℕ) → n < k → ArePaired set g w (word g (a + 1 + n)) (word h (b + 1 + n))

-- two objects were compared: they have one header and the same data words, and their slots are paired
pub record IsCompared (set : List ℕ) (g h : Heap) (w : Pairs) (a b : ℕ) : Type 0 where
  pub stands : Contains (objects h) (object_at h b)
  pub alike : AreAlike g h a b
  pub slots : PairsSlots set g h w a b (object_at g a).refs

-- the objects of a region were compared with themselves
abbrev pub ComparesRegion : List ℕ → Heap → Heap → Pairs → ℕ → Type 0
ComparesRegion set g h w r = (a : ℕ) → Contains (objects_in g r) (object_at g a) → IsCompared set g h w a a

-- the objects outside the set that are still in use were compared, in the first regions
abbrev pub ComparesOutside : List ℕ → Heap → Heap → Pairs → ℕ → Type 0
ComparesOutside set g h w k =
    (r : ℕ) → r < k → IsFalse (has set r) → kind g r ≢ Free → kind h r ≢ Free → ComparesRegion set g h w r

-- the first pairs were compared
abbrev pub ComparesPairs : List ℕ → Heap → Heap → Pairs → ℕ → Type 0
ComparesPairs set g h w k =
    (i : ℕ) → i < k → IsCompared set g h w (slice_index w.before.items i) (slice_index w.after.items i)

-- the walk has found what a search has before a place
abbrev pub Searches : Bool → List ℕ → Heap → Heap → Pairs → ℕ → ℕ → Type 0
Searches fill set g h w f n = IsSearch fill set g h w.before.items w.after.items f n

-- the objects of a turn of the walk
abbrev pub HasTurn : List ℕ → Heap → Heap → Pairs → ℕ → ℕ → ℕ → Type 0
HasTurn set g h w t a b = IsTurn set g h w.before.items w.after.items t a b

-- the words of a place of the walk
abbrev pub HasWords : List ℕ → Heap → Heap → Pairs → ℕ → ℕ → ℕ → ℕ → Type 0
HasWords set g h w f n x y = AreWords set g h w.before.items w.after.items f n x y

-- the search goes on past any place that has these two words
abbrev pub PassesWords : Bool → List ℕ → Heap → Heap → Pairs → Pairs → ℕ → ℕ → Type 0
PassesWords fill set g h w v x y = (f n : ℕ) → Searches fill set g h w f n → HasWords set g h w f n x y → Searches fill set g h v f (n + 1)

-- this loss is met first at any place that has these two words, and the other one if they disagree
abbrev pub StopsAtWords : Bool → List ℕ → Heap → Heap → Pairs → ℕ → ℕ → Lost → Lost → Type 0
StopsAtWords fill set g h w x y other l =
    (f n : ℕ) → Searches fill set g h w f n → HasWords set g h w f n x y
    → (Clash set g w.before.items w.after.items x y → IsLostAt fill set g h w.before.items w.after.items f n other) → IsMetFirst fill set g h l

-- the search goes on from this number of the row of two objects to the next row
abbrev pub PassesObjects : Bool → List ℕ → Heap → Heap → Pairs → Pairs → ℕ → ℕ → ℕ → Type 0
PassesObjects fill set g h w v a b n = (t : ℕ) → Searches fill set g h w (suc t) n → HasTurn set g h w t a b → Searches fill set g h v (suc (suc t)) 0

-- this loss is met first from this number of the row of two objects on
abbrev pub StopsAtObjects : Bool → List ℕ → Heap → Heap → Pairs → ℕ → ℕ → ℕ → Lost → Type 0
StopsAtObjects fill set g h w a b n l = (t : ℕ) → Searches fill set g h w (suc t) n → HasTurn set g h w t a b → IsMetFirst fill set g h l

-- What is lost of the headers or the data words of two objects: the headers differ, or this is the first data word that does. (The data
-- words begin behind the slots, and these are as many as the header says.)
abbrev pub IsFirstOfObjects : Heap → Heap → ℕ → ℕ → Lost → Type 0
IsFirstOfObjects g h a b (lost.Header c d) = (c ≡ a) × (d ≡ b)
IsFirstOfObjects g h a b (lost.Data c d k) =
    (c ≡ a) × (d ≡ b)
    × ((j : ℕ) → j < k → word h (d + 1 + (object_at g c).refs + j) ≡ word g (c + 1 + (object_at g c).refs + j))
IsFirstOfObjects g h a b _ = ⊥
