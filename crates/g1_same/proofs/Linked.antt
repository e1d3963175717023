-- What a walk without a difference has linked, and where it meets one.
use Rattle.std.proofs.Common.{◌<◌, ℕ, zero, suc, ◌+◌, length, slice_index}
use Rattle.g1_words.specs.Heap.{Heap, word, object_at}
use Rattle.g1_same.specs.declared.walk.Walk.{Walk}
use Rattle.g1_same.specs.declared.walk.Way.{Way}
use Rattle.g1_same.specs.declared.difference.How.{How}
use Rattle.g1_same.specs.Walk.{IsWay, IsBelow, IsLinked, IsSeen, IsLeast}

-- the first roots are linked
abbrev pub LinksRoots : Heap → Heap → Walk → ℕ → Type 0
LinksRoots g h w k = (n : ℕ) → n < k → IsLinked w 0 n (slice_index g.roots n) (slice_index h.roots n)

-- the first slots of the pair at place i are linked
abbrev pub LinksSlots : Heap → Heap → Walk → ℕ → ℕ → Type 0
LinksSlots g h w i k = (n : ℕ) → n < k
    → IsLinked w (suc i) n (word g (slice_index w.before.items i + 1 + n)) (word h (slice_index w.after.items i + 1 + n))

-- all slots of the first pairs are linked
abbrev pub LinksPairs : Heap → Heap → Walk → ℕ → Type 0
LinksPairs g h w m = (i : ℕ) → i < m → LinksSlots g h w i (object_at g (slice_index w.before.items i)).refs

-- all ways before this one are linked
abbrev pub LinksTo : Heap → Heap → Walk → ℕ → ℕ → Type 0
LinksTo g h w zero n = LinksRoots g h w n
LinksTo g h w (suc j) n = LinksRoots g h w (length g.roots) × LinksPairs g h w j × LinksSlots g h w j n

-- where two words disagree, and how
pub record Stop : Type 0 where
  pub way : Way
  pub how : How

-- the walk meets two words that disagree
abbrev pub IsStop : Heap → Heap → Walk → Stop → Type 0
IsStop g h w s =
    (x : ℕ) × (y : ℕ) × IsWay g h w.before.items w.after.items s.way.from s.way.number x y × IsSeen g h w s.how x y × IsBelow w s.way.from s.way.number × IsLeast g h w s.how x y
