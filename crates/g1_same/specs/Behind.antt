-- What lies behind a difference: which places a walk over two heaps compares, and where it goes on.
use Rattle.std.specs.Prelude.{◌≡◌, ◌<◌, ◌≤◌, ℕ, zero, suc, List, ◌+◌, length, slice_index, AllPairs, Contains}
use Rattle.g1_words.specs.Heap.{Heap}
use Rattle.g1_image.specs.Stale.{HasLowerPlace}
use Rattle.g1_same.specs.declared.walk.Walk.{Walk}
use Rattle.g1_same.specs.declared.stale.StaleWords.{StaleWords}
use Rattle.g1_same.specs.declared.walk.What.{What}
use Rattle.g1_same.specs.declared.walk.What.TheVariants as what
use Rattle.g1_same.specs.declared.walk.Found.{Found}
use Rattle.g1_same.specs.declared.difference.How.TheVariants.{Data}
use Rattle.g1_same.specs.Path.{Together}
use Rattle.g1_same.specs.Same.{IsClash}
use Rattle.g1_same.specs.Walk.{AreAlike, IsWay, IsEarlier, IsLinked, IsBelow, IsSeen, IsLeast, IsRoute}

-- the stale words have this one at the root of this number, or at the slot of this number of the pair after before place from
abbrev pub IsStaleAt : StaleWords → Walk → ℕ → ℕ → ℕ → Type 0
IsStaleAt s w zero n z = Contains s.roots.now (n, z)
IsStaleAt s w (suc j) n z = Contains s.slots.now (slice_index w.after.items j + 1 + n, z)

-- both lists of stale words rise by place
pub record AreByPlace (s : StaleWords) : Type 0 where
  pub roots : AllPairs HasLowerPlace s.roots.now
  pub slots : AllPairs HasLowerPlace s.slots.now

-- a list that rises by place has no word of a null one at this place
abbrev pub HasNoneAt : List (ℕ × ℕ) → ℕ → ℕ → Type 0
HasNoneAt l place word = AllPairs HasLowerPlace l → word ≡ 0 → (z : ℕ) → Contains l (place, z) → ⊥

-- two words differ like this: the one after is this stale word, or they disagree by what was found
abbrev pub Differs : Heap → Heap → Walk → (ℕ → Type 0) → What → ℕ → ℕ → Type 0
Differs g h w P (what.Stale z) x y = P z × (y ≡ 0)
Differs g h w P (what.How how) x y = IsSeen g h w how x y × IsLeast g h w how x y

-- a difference stands at the way of a place, behind those of all pairs
pub record IsFound (g h : Heap) (s : StaleWords) (w : Walk) (f : Found) : Type 0 where
  pub way : IsWay g h w.before.items w.after.items f.place.way.from f.place.way.number f.place.before f.place.after
  pub below : IsBelow w f.place.way.from f.place.way.number
  pub differs : Differs g h w (IsStaleAt s w f.place.way.from f.place.way.number) f.what f.place.before f.place.after

-- all places from the first way on and before the second one are linked
abbrev pub LinksBetween : Heap → Heap → Walk → ℕ → ℕ → ℕ → ℕ → Type 0
LinksBetween g h w f m k n =
    (i j x y : ℕ) → (IsEarlier i j f m → ⊥) → IsEarlier i j k n → IsWay g h w.before.items w.after.items i j x y → IsLinked w i j x y

-- the difference is not before the way, and all places between are linked
abbrev pub IsNext : Heap → Heap → Walk → ℕ → ℕ → Found → Type 0
IsNext g h w f m d =
    (IsEarlier d.place.way.from d.place.way.number f m → ⊥) × LinksBetween g h w f m d.place.way.from d.place.way.number

-- no place from the first way on and before the second one has a stale word: lists that rise by place have none where the word after is null
abbrev pub PassesNoStale : Heap → Heap → StaleWords → Walk → ℕ → ℕ → ℕ → ℕ → Type 0
PassesNoStale g h s w f m k n =
    AreByPlace s → (i j x z : ℕ) → (IsEarlier i j f m → ⊥) → IsEarlier i j k n → IsWay g h w.before.items w.after.items i j x 0 → IsStaleAt s w i j z → ⊥

-- how far a walk has looked for stale words that returns a difference in a row: to before a stale word, or to behind another difference
abbrev pub looked_to : What → ℕ → ℕ
looked_to (what.Stale z) n = n
looked_to (what.How how) n = n + 1

-- no place from the way on and before the difference has a stale word, nor has its own place if it is another difference
abbrev pub IsNextStale : Heap → Heap → StaleWords → Walk → ℕ → ℕ → Found → Type 0
IsNextStale g h s w f m d = PassesNoStale g h s w f m d.place.way.from (looked_to d.what d.place.way.number)

-- the pairs that the second walk has and the first one has not are alike
abbrev pub FindsAlike : Heap → Heap → Walk → Walk → Type 0
FindsAlike g h w v =
    (i : ℕ) → length w.before.items ≤ i → i < length v.before.items → AreAlike g h (slice_index v.before.items i) (slice_index v.after.items i)

-- how two words that a path leads to differ: the one after is stale, and null in the heap, or they disagree
abbrev pub DiffersAt : Heap → Heap → List ℕ → What → ℕ → ℕ → Type 0
DiffersAt g h p (what.Stale z) x y = y ≡ 0
DiffersAt g h p (what.How how) x y = IsClash g h p how x y

-- the words of a place that a path leads to, and how they differ there
abbrev pub ShowsAt : Heap → Heap → List ℕ → Found → Type 0
ShowsAt g h p f = Together g h p f.place.before f.place.after × DiffersAt g h p f.what f.place.before f.place.after

-- the difference stands where its path ends
abbrev pub IsThere : Heap → Heap → Walk → Found → Type 0
IsThere g h w f =
    (f.place.way.from ≤ length w.before.items) × ((p : List ℕ) → IsRoute w f.place.way.from f.place.way.number p → ShowsAt g h p f)

-- two objects of which the data words alone differ are a pair from then on
abbrev pub IsPassed : Walk → Found → Type 0
IsPassed w d = (k : ℕ) → d.what ≡ what.How (Data k) → IsLinked w d.place.way.from d.place.way.number d.place.before d.place.after

-- the second walk has the pairs of the first one, and at most one more, which this way found
abbrev pub AddsOnly : Walk → Walk → ℕ → ℕ → Type 0
AddsOnly w v f n =
    (i : ℕ) → length w.before.items ≤ i → i < length v.before.items → (slice_index v.from.items i ≡ f) × (slice_index v.number.items i ≡ n)
