-- What the walk over both heaps has found.
use Rattle.std.specs.Prelude.{◌≡◌, ◌≢◌, ◌<◌, ◌≤◌, ◌↔◌, ◌⊎◌, ℕ, zero, suc, List, [], ◌∷◌, ◌+◌, ◌++◌, length, slice_index, Contains}
use Rattle.g1_words.specs.Heap.{Heap, word, object_at, objects}
use Rattle.g1_same.specs.declared.walk.Walk.{Walk}
use Rattle.g1_same.specs.declared.meeting.Met.{Met}
use Rattle.g1_same.specs.declared.meeting.Met.TheVariants.{Known, New, Clash}
use Rattle.g1_same.specs.declared.difference.How.{How}
use Rattle.g1_same.specs.declared.difference.How.TheVariants.{NullBefore, NullAfter, Split, Joined, Slots, Data}
use Rattle.g1_same.specs.Same.{IsClash}

-- the table has, at each address of the list, 1 more than its place in it, and 0 at every other address
abbrev pub IsIndex : List ℕ → List ℕ → Type 0
IsIndex table l = (a i : ℕ) → a < length table → (slice_index table a ≡ suc i) ↔ ((i < length l) × (slice_index l i ≡ a))

-- two objects have one header and the same data words
pub record AreAlike (g h : Heap) (a b : ℕ) : Type 0 where
  pub header : word g a ≡ word h b
  pub data_words : (k : ℕ) → (object_at g a).refs + 1 + k < (object_at g a).size
      → word g (a + 1 + (object_at g a).refs + k) ≡ word h (b + 1 + (object_at g a).refs + k)

-- both words are null, or name a pair of objects that was found
abbrev pub IsPaired : List ℕ → List ℕ → ℕ → ℕ → Type 0
IsPaired olds news x y =
    ((x ≡ 0) × (y ≡ 0)) ⊎ ((i : ℕ) × (i < length olds) × (x ≡ suc (slice_index olds i)) × (y ≡ suc (slice_index news i)))

-- of two ways, the one that is looked at first
abbrev pub IsEarlier : ℕ → ℕ → ℕ → ℕ → Type 0
IsEarlier f m k n = (f < k) ⊎ ((f ≡ k) × (m < n))

-- both words are null, or name a pair that was found by this way or an earlier one
abbrev pub IsLinked : Walk → ℕ → ℕ → ℕ → ℕ → Type 0
IsLinked w f n x y =
    ((x ≡ 0) × (y ≡ 0))
    ⊎ ((i : ℕ) × (i < length w.before.items) × (x ≡ suc (slice_index w.before.items i)) × (y ≡ suc (slice_index w.after.items i))
    × IsEarlier (slice_index w.from.items i) (slice_index w.number.items i) f (n + 1))

-- The two words stand in the root of this number where from is 0, else in the slot of this number of
-- the pair of objects before place from.
abbrev pub IsWay : Heap → Heap → List ℕ → List ℕ → ℕ → ℕ → ℕ → ℕ → Type 0
IsWay g h olds news zero n x y =
    (n < length g.roots) × (n < length h.roots) × (slice_index g.roots n ≡ x) × (slice_index h.roots n ≡ y)
IsWay g h olds news (suc j) n x y =
    (j < length olds) × (n < (object_at g (slice_index olds j)).refs) × (n < (object_at h (slice_index news j)).refs)
    × (word g (slice_index olds j + 1 + n) ≡ x) × (word h (slice_index news j + 1 + n) ≡ y)

-- The pairs are objects of both heaps of which R holds, told by the tables, and each was found by a way, in the order of the ways.
pub record IsWalkOf (R : ℕ → ℕ → Type 0) (g h : Heap) (w : Walk) : Type 0 where
  pub table_before : length w.new_of.items ≡ length g.words
  pub table_after : length w.old_of.items ≡ length h.words
  pub index_before : IsIndex w.new_of.items w.before.items
  pub index_after : IsIndex w.old_of.items w.after.items
  pub pairs : length w.after.items ≡ length w.before.items
  pub froms : length w.from.items ≡ length w.before.items
  pub numbers : length w.number.items ≡ length w.before.items
  pub names_before : (i : ℕ) → i < length w.before.items → Contains (objects g) (object_at g (slice_index w.before.items i))
  pub names_after : (i : ℕ) → i < length w.before.items → Contains (objects h) (object_at h (slice_index w.after.items i))
  pub alike : (i : ℕ) → i < length w.before.items → R (slice_index w.before.items i) (slice_index w.after.items i)
  pub backward : (i : ℕ) → i < length w.before.items → slice_index w.from.items i ≤ i
  pub ways : (i : ℕ) → i < length w.before.items
      → IsWay g h w.before.items w.after.items (slice_index w.from.items i) (slice_index w.number.items i)
      (suc (slice_index w.before.items i)) (suc (slice_index w.after.items i))
  pub rising : (i j : ℕ) → i < j → j < length w.before.items
      → IsEarlier (slice_index w.from.items i) (slice_index w.number.items i) (slice_index w.from.items j) (slice_index w.number.items j)

-- a walk that has met no difference
abbrev pub IsWalk : Heap → Heap → Walk → Type 0
IsWalk g h w = IsWalkOf (AreAlike g h) g h w

-- two objects have one header
abbrev pub HaveOneHeader : Heap → Heap → ℕ → ℕ → Type 0
HaveOneHeader g h a b = word g a ≡ word h b

-- a walk that goes on behind objects whose data words alone differ
abbrev pub IsTour : Heap → Heap → Walk → Type 0
IsTour g h w = IsWalkOf (HaveOneHeader g h) g h w

-- each pair has a way, which leads back to a pair before it or to a root
pub record HasWays (w : Walk) : Type 0 where
  pub froms : length w.from.items ≡ length w.before.items
  pub numbers : length w.number.items ≡ length w.before.items
  pub backward : (i : ℕ) → i < length w.before.items → slice_index w.from.items i ≤ i

-- all pairs were found by ways before this one
abbrev pub IsBelow : Walk → ℕ → ℕ → Type 0
IsBelow w f n = (i : ℕ) → i < length w.before.items → IsEarlier (slice_index w.from.items i) (slice_index w.number.items i) f n

-- the walk has all that it had, each in its place
pub record HasGrown (w v : Walk) : Type 0 where
  pub more : length w.before.items ≤ length v.before.items
  pub olds : (i : ℕ) → i < length w.before.items → slice_index v.before.items i ≡ slice_index w.before.items i
  pub news : (i : ℕ) → i < length w.before.items → slice_index v.after.items i ≡ slice_index w.after.items i
  pub froms : (i : ℕ) → i < length w.before.items → slice_index v.from.items i ≡ slice_index w.from.items i
  pub numbers : (i : ℕ) → i < length w.before.items → slice_index v.number.items i ≡ slice_index w.number.items i

-- the address is none of the list
abbrev pub IsNew : List ℕ → ℕ → Type 0
IsNew l a = (i : ℕ) → i < length l → slice_index l i ≡ a → ⊥

-- two objects do not disagree in what is looked at before this
abbrev pub IsLower : Heap → Heap → How → ℕ → ℕ → Type 0
IsLower g h (Slots m n) a b = (object_at g a).size ≡ (object_at h b).size
IsLower g h (Data k) a b = (i : ℕ) → i < k → word g (a + 1 + (object_at g a).refs + i) ≡ word h (b + 1 + (object_at g a).refs + i)
IsLower g h _ a b = Unit {0}

-- two words disagree in nothing that is looked at before this
abbrev pub IsLeast : Heap → Heap → Walk → How → ℕ → ℕ → Type 0
IsLeast g h w NullBefore x y = Unit {0}
IsLeast g h w NullAfter x y = Unit {0}
IsLeast g h w (Split a m n) x y = Unit {0}
IsLeast g h w (Joined m n b) x y = IsNew w.before.items n
IsLeast g h w how x y = (a b : ℕ) → x ≡ suc a → y ≡ suc b → IsNew w.before.items a × IsNew w.after.items b × IsLower g h how a b

-- how two words disagree by what was found
abbrev pub IsSeen : Heap → Heap → Walk → How → ℕ → ℕ → Type 0
IsSeen g h w (Split a m n) x y =
    (x ≡ suc a) × (y ≡ suc n) × (m ≢ n) × (i : ℕ) × (i < length w.before.items) × (slice_index w.before.items i ≡ a) × (slice_index w.after.items i ≡ m)
IsSeen g h w (Joined m n b) x y =
    (x ≡ suc n) × (y ≡ suc b) × (m ≢ n) × (i : ℕ) × (i < length w.before.items) × (slice_index w.before.items i ≡ m) × (slice_index w.after.items i ≡ b)
IsSeen g h w how x y = (p : List ℕ) → IsClash g h p how x y

-- what two words are to the walk
abbrev pub IsMet : Heap → Heap → Walk → ℕ → ℕ → Met → Type 0
IsMet g h w x y Known = IsPaired w.before.items w.after.items x y
IsMet g h w x y (New a b) =
    (x ≡ suc a) × (y ≡ suc b) × (slice_index w.new_of.items a ≡ 0) × (slice_index w.old_of.items b ≡ 0) × AreAlike g h a b
IsMet g h w x y (Clash how) = IsSeen g h w how x y × IsLeast g h w how x y

-- the path of a way: that of the pair whose slot it is, and then the slot's number
pub data IsRoute (w : Walk) : ℕ → ℕ → List ℕ → Type 0 where
  root : (n : ℕ) → IsRoute w zero n (n ∷ [])
  slot : (j n : ℕ) (p : List ℕ) → j < length w.before.items → IsRoute w (slice_index w.from.items j) (slice_index w.number.items j) p → IsRoute w (suc j) n (p ++ n ∷ [])
