-- Where a heap does not keep what a pause of a set of regions keeps: what each report says of both heaps.
use Rattle.std.specs.Prelude.{◌≡◌, ◌≢◌, ◌<◌, ◌≤◌, ◌⊎◌, ◌+◌, ℕ, suc, Bool, List, length, slice_index, IsTrue, IsFalse}
use Rattle.g1_words.specs.declared.region.Kind.TheVariants.{Free}
use Rattle.g1_words.specs.Lists.{has}
use Rattle.g1_words.specs.Heap.{Heap, kind, top, start, pinned, word, object_at}
use Rattle.g1_words.specs.Survivors.{in_set}
use Rattle.g1_kept.specs.declared.lost.Lost.{Lost}
use Rattle.g1_kept.specs.declared.lost.Lost.TheVariants as lost
use Rattle.g1_kept.specs.Keeps.{MayHoldCopy, IsFreed, IsOutside}

-- The object before and the one after have to be the same: an object outside the set and itself; and what one root, or one slot
-- of two such objects, references, in the set before and anywhere after.
pub data Match (set : List ℕ) (g h : Heap) : ℕ → ℕ → Type 0 where
  outside : {a : ℕ} → IsOutside set g h a → Match set g h a a
  root : {a b : ℕ} (n : ℕ) → n < length g.roots → n < length h.roots
      → slice_index g.roots n ≡ suc a → slice_index h.roots n ≡ suc b → IsTrue (in_set g set a) → Match set g h a b
  slot : {a b c d : ℕ} (n : ℕ) → Match set g h a b → n < (object_at g a).refs → n < (object_at h b).refs
      → word g (a + 1 + n) ≡ suc c → word h (b + 1 + n) ≡ suc d → IsTrue (in_set g set c) → Match set g h c d

-- the reference word is null, or leads out of the set
abbrev pub LeadsOut : List ℕ → Heap → ℕ → Type 0
LeadsOut set g x = (a : ℕ) → x ≡ suc a → IsFalse (in_set g set a)

-- Two reference words disagree: a word that is to stay is another one; what led into the set is null; or what led into the set
-- references another object after than what matches, or the match of another object.
pub data Disagree (set : List ℕ) (g h : Heap) : ℕ → ℕ → Type 0 where
  changed : {x y : ℕ} → LeadsOut set g x → y ≢ x → Disagree set g h x y
  null : {a : ℕ} → IsTrue (in_set g set a) → Disagree set g h (suc a) 0
  split : {a b : ℕ} (other : ℕ) → IsTrue (in_set g set a) → Match set g h a other → other ≢ b → Disagree set g h (suc a) (suc b)
  joined : {a b : ℕ} (other : ℕ) → IsTrue (in_set g set a) → IsTrue (in_set g set other) → Match set g h other b → other ≢ a → Disagree set g h (suc a) (suc b)

-- a region outside the set that was in use
pub record IsUsedOutside (set : List ℕ) (g : Heap) (r : ℕ) : Type 0 where
  pub in_heap : r < g.geometry.n
  pub outside : IsFalse (has set r)
  pub used : kind g r ≢ Free

-- the top of the region is lower, or a word above the old top is used where no copy may be
abbrev pub HasOtherTop : Bool → Heap → Heap → ℕ → Type 0
HasOtherTop fill g h r = (top h r < top g r) ⊎ ((i : ℕ) × (top g r ≤ i) × (i < top h r) × (MayHoldCopy fill g (start g r + i) → ⊥))

-- what is reported lost holds in both heaps
abbrev pub IsLoss : Bool → List ℕ → Heap → Heap → Lost → Type 0
IsLoss fill set g h lost.Sizes = h.geometry ≢ g.geometry
IsLoss fill set g h lost.Roots = length h.roots ≢ length g.roots
IsLoss fill set g h (lost.Set r) = (r < g.geometry.n) × IsTrue (has set r) × (kind h r ≢ Free)
IsLoss fill set g h (lost.Region r) =
    IsUsedOutside set g r × (IsFreed g h r → ⊥) × ((kind h r ≢ kind g r) ⊎ HasOtherTop fill g h r)
IsLoss fill set g h (lost.Unpinned r) =
    IsUsedOutside set g r × (kind h r ≡ kind g r) × (HasOtherTop fill g h r → ⊥) × IsTrue (pinned g r) × IsFalse (pinned h r)
IsLoss fill set g h (lost.Pinned r) =
    IsUsedOutside set g r × (kind h r ≡ kind g r) × (HasOtherTop fill g h r → ⊥) × IsFalse (pinned g r) × IsTrue (pinned h r)
IsLoss fill set g h (lost.Copy a b) = Match set g h a b × IsTrue (in_set g set a) × (MayHoldCopy fill g b → ⊥)
IsLoss fill set g h (lost.Header a b) = Match set g h a b × (word h b ≢ word g a)
IsLoss fill set g h (lost.Data a b k) =
    Match set g h a b × (word h b ≡ word g a) × ((object_at g a).refs + 1 + k < (object_at g a).size)
    × (word h (b + 1 + (object_at g a).refs + k) ≢ word g (a + 1 + (object_at g a).refs + k))
IsLoss fill set g h (lost.Slot a b n) =
    Match set g h a b × (word h b ≡ word g a) × (n < (object_at g a).refs) × Disagree set g h (word g (a + 1 + n)) (word h (b + 1 + n))
IsLoss fill set g h (lost.Root n) =
    (n < length g.roots) × (n < length h.roots) × Disagree set g h (slice_index g.roots n) (slice_index h.roots n)
