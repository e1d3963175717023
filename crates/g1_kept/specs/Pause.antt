-- What the walk over the heaps of a pause has found, and what it reports, by the pause.
use Rattle.std.specs.Prelude.{ℕ, Contains}
use Rattle.g1_words.specs.Heap.{object_at, objects}
use Rattle.g1_kept.specs.declared.lost.Lost.{Lost}
use Rattle.g1_kept.specs.declared.pairs.Pairs.{Pairs}
use Rattle.g1_kept.specs.declared.pause.Pause.{Pause}
use Rattle.g1_kept.specs.Keeps.{Keeps, KeepsTable}
use Rattle.g1_kept.specs.Lost.{Match, IsLoss}
use Rattle.g1_kept.specs.Order.{IsEarliestLoss, IsMetFirst}
use Rattle.g1_kept.specs.Walk.{IsPairWalk, Searches, PassesObjects, StopsAtObjects}

-- the heap after keeps what a pause of the set keeps
abbrev pub KeepsIn : Pause → Type 0
KeepsIn p = Keeps p.fill p.set.now p.heaps.before.now p.heaps.after.now

-- the sizes and the regions are as they have to be
abbrev pub KeepsTableIn : Pause → Type 0
KeepsTableIn p = KeepsTable p.fill p.set.now p.heaps.before.now p.heaps.after.now

-- what is reported lost holds in both heaps
abbrev pub IsLossIn : Pause → Lost → Type 0
IsLossIn p l = IsLoss p.fill p.set.now p.heaps.before.now p.heaps.after.now l

-- nothing that comes before it is lost
abbrev pub IsEarliestIn : Pause → Lost → Type 0
IsEarliestIn p l = IsEarliestLoss p.fill p.set.now p.heaps.before.now p.heaps.after.now l

-- a search meets this loss first
abbrev pub IsMetFirstIn : Pause → Lost → Type 0
IsMetFirstIn p l = IsMetFirst p.fill p.set.now p.heaps.before.now p.heaps.after.now l

-- the object before and the one after have to be the same
abbrev pub MatchIn : Pause → ℕ → ℕ → Type 0
MatchIn p a b = Match p.set.now p.heaps.before.now p.heaps.after.now a b

-- an object before and one after stand in their heaps, and have to be the same
pub record AreMatched (p : Pause) (a b : ℕ) : Type 0 where
  pub before : Contains (objects p.heaps.before.now) (object_at p.heaps.before.now a)
  pub after : Contains (objects p.heaps.after.now) (object_at p.heaps.after.now b)
  pub matched : MatchIn p a b

-- the pairs are objects of the set and their copies, found by the tables
abbrev pub IsWalkIn : Pause → Pairs → Type 0
IsWalkIn p w = IsPairWalk p.fill p.set.now p.heaps.before.now p.heaps.after.now w

-- the walk has found what a search has before a place
abbrev pub SearchesIn : Pause → Pairs → ℕ → ℕ → Type 0
SearchesIn p w f n = Searches p.fill p.set.now p.heaps.before.now p.heaps.after.now w f n

-- the search goes on from this number of the row of two objects to the next row
abbrev pub PassesObjectsIn : Pause → Pairs → Pairs → ℕ → ℕ → ℕ → Type 0
PassesObjectsIn p w v a b n = PassesObjects p.fill p.set.now p.heaps.before.now p.heaps.after.now w v a b n

-- this loss is met first from this number of the row of two objects on
abbrev pub StopsAtObjectsIn : Pause → Pairs → ℕ → ℕ → ℕ → Lost → Type 0
StopsAtObjectsIn p w a b n l = StopsAtObjects p.fill p.set.now p.heaps.before.now p.heaps.after.now w a b n l
