-- What a heap keeps of an earlier one after a pause of a set of regions, wherever the survivors went.
use Rattle.std.specs.Prelude.{◌≡◌, ◌≢◌, ◌≤◌, ◌<◌, ◌⊎◌, ◌+◌, ℕ, Bool, List, map, Contains, IsTrue, IsFalse}
use Rattle.g1_words.specs.declared.region.Kind.{Kind}
use Rattle.g1_words.specs.declared.region.Kind.TheVariants.{Free, Ordinary, HumongousFirst, Continuation}
use Rattle.g1_words.specs.Lists.{has}
use Rattle.g1_words.specs.Heap.{Heap, kind, top, pinned, start, region_of, object_at, objects}
use Rattle.g1_words.specs.References.{root_targets, targets}
use Rattle.g1_words.specs.Survivors.{in_set}
use Rattle.g1_words.specs.Copy.{renamed, IsCopy}

-- the address is at or above the top of its region, an ordinary one
pub record IsBehindTop (g : Heap) (b : ℕ) : Type 0 where
  pub ordinary : kind g (region_of g b) ≡ Ordinary
  pub behind : start g (region_of g b) + top g (region_of g b) ≤ b

-- A copy may be at this address: its region was free before; or, if copies may fill regions, it is behind the top of an ordinary one.
-- (The regions of the set are free after, and so hold no copy.)
abbrev pub MayHoldCopy : Bool → Heap → ℕ → Type 0
MayHoldCopy fill g b = (kind g (region_of g b) ≡ Free) ⊎ (IsTrue fill × IsBehindTop g b)

-- regions of this kind belong to the run of a humongous object
abbrev pub IsOfRun : Kind → Type 0
IsOfRun HumongousFirst = Unit {0}
IsOfRun Continuation = Unit {0}
IsOfRun _ = ⊥

-- The region was of a humongous object's run, and is free. Since the heap after is valid, a run that is free in part is free as a whole.
abbrev pub IsFreed : Heap → Heap → ℕ → Type 0
IsFreed g h r = IsOfRun (kind g r) × (kind h r ≡ Free)

-- the region is as it was: no word is used that wasn't, except where a copy may be
pub record IsAsItWas (fill : Bool) (g h : Heap) (r : ℕ) : Type 0 where
  pub same_kind : kind h r ≡ kind g r
  pub same_pin : pinned h r ≡ pinned g r
  pub filled : top g r ≤ top h r
  pub above : (i : ℕ) → top g r ≤ i → i < top h r → MayHoldCopy fill g (start g r + i)

-- a region of the set is free; another one that was in use is freed or as it was
pub record KeepsRegion (fill : Bool) (set : List ℕ) (g h : Heap) (r : ℕ) : Type 0 where
  pub of_set : IsTrue (has set r) → kind h r ≡ Free
  pub other : IsFalse (has set r) → (kind g r ≡ Free) ⊎ (IsFreed g h r ⊎ IsAsItWas fill g h r)

-- the heaps have the same sizes, and each region is as it has to be
pub record KeepsTable (fill : Bool) (set : List ℕ) (g h : Heap) : Type 0 where
  pub geometry : h.geometry ≡ g.geometry
  pub regions : (r : ℕ) → r < g.geometry.n → KeepsRegion fill set g h r

-- an object outside the set whose region is still in use, dead or not
pub record IsOutside (set : List ℕ) (g h : Heap) (a : ℕ) : Type 0 where
  pub object : Contains (objects g) (object_at g a)
  pub outside : IsFalse (in_set g set a)
  pub in_use : kind h (region_of g a) ≢ Free

-- The objects that have to be in the heap after: those outside the set, and each object of the set that a root references, or a
-- slot of an object that has to be there.
pub data Remains (set : List ℕ) (g h : Heap) : ℕ → Type 0 where
  outside : {a : ℕ} → IsOutside set g h a → Remains set g h a
  root : {a : ℕ} → Contains (root_targets g) a → IsTrue (in_set g set a) → Remains set g h a
  slot : {a b : ℕ} → Remains set g h a → Contains (targets g a) b → IsTrue (in_set g set b) → Remains set g h b

-- The heap h keeps what a pause of the set keeps of g. Whatever references an object of the set leads to its copy, one for each.
-- Where copies may be, h may have other objects, too: a collector may leave fillers.
pub record Keeps (fill : Bool) (set : List ℕ) (g h : Heap) : Type 0 where
  pub table : KeepsTable fill set g h
  pub rename : ℕ → ℕ
  pub stays : (a : ℕ) → IsFalse (in_set g set a) → rename a ≡ a
  pub moves : (a : ℕ) → Remains set g h a → IsTrue (in_set g set a) → MayHoldCopy fill g (rename a)
  pub one_to_one : (a b : ℕ) → Remains set g h a → Remains set g h b → rename a ≡ rename b → a ≡ b
  pub roots : h.roots ≡ map (renamed rename) g.roots
  pub stands : (a : ℕ) → Remains set g h a → Contains (objects h) (object_at h (rename a))
  pub copies : (a : ℕ) → Remains set g h a → IsCopy rename g h (object_at g a)
