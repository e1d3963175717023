-- All places between two ways are linked: none yet, one more, all of a row, and those of a walk that has grown.
use Rattle.std.proofs.Common.{◌≡◌, ℕ, zero, suc, ◌+◌, ◌-◌, ◌%◌, ◌^◌, ◌<◌, ◌≤◌, inl, inr, List, [], length, Contains, refl, sym, ap, subst, ◌∙◌, arith, slice_index}
use Rattle.std.proofs.lemmas.Bool.{cases_lt}
use Rattle.g1_words.specs.Heap.{Heap, word, object_at}
use Rattle.g1_words.specs.Valid.{IsValid, IsReference}
use Rattle.g1_words.proofs.Members.{none_contains}
use Rattle.g1_same.specs.declared.walk.Walk.{Walk}
use Rattle.g1_same.specs.declared.walk.Found.{Found}
use Rattle.g1_same.specs.declared.stale.StaleWords.{StaleWords}
use Rattle.g1_same.specs.declared.walk.What.{What}
use Rattle.g1_same.specs.declared.walk.What.TheVariants as what
use Rattle.g1_same.specs.Walk.{IsIndex, IsNew, IsRoute, root, slot, AreAlike, IsWay, IsWalkOf, IsWalk, IsTour, IsEarlier, IsLinked, IsBelow, HasGrown, HasWays}
use Rattle.g1_same.proofs.Linked.{LinksRoots, LinksPairs, LinksTo}
use Rattle.g1_same.specs.Behind.{IsStaleAt, Differs, DiffersAt, ShowsAt, IsFound, IsThere, LinksBetween, FindsAlike, AddsOnly}
use Rattle.g1_same.specs.Underway.{FindsAlikeUntil}
use Rattle.g1_same.proofs.Heaps.{root_names, slot_names}
use Rattle.g1_same.proofs.Adding.{linked_more}
use Rattle.g1_same.proofs.Tables.{index_some}
use Rattle.g1_same.proofs.Routes.{route_of, route_one, route_leads, seen_clash}
use Rattle.g1_same.proofs.First.{none_between, way_cases}

pub earlier_not : (a b k m : ℕ) → IsEarlier a b k m → IsEarlier k m a b → ⊥
earlier_not a b k m (inl e) (inl d) = absurd (omega (arith, e, d))
earlier_not a b k m (inl e) (inr d) = absurd (omega (arith, e, d.0))
earlier_not a b k m (inr e) (inl d) = absurd (omega (arith, e.0, d))
earlier_not a b k m (inr e) (inr d) = absurd (omega (arith, e.1, d.1))

pub earlier_trans : (a b k m r s : ℕ) → IsEarlier a b k m → IsEarlier k m r s → IsEarlier a b r s
earlier_trans a b k m r s (inl e) (inl d) = inl (omega (arith, e, d))
earlier_trans a b k m r s (inl e) (inr d) = inl (omega (arith, e, d.0))
earlier_trans a b k m r s (inr e) (inl d) = inl (omega (arith, e.0, d))
earlier_trans a b k m r s (inr e) (inr d) = inr (omega (arith, e.0, d.0), omega (arith, e.1, d.1))

-- a way leads to one word in each heap
pub way_one : (g h : Heap) (os ns : List ℕ) (f n x y u v : ℕ) → IsWay g h os ns f n x y → IsWay g h os ns f n u v → (x ≡ u) × (y ≡ v)
way_one g h os ns zero n x y u v a b = (sym a.2 ∙ b.2, sym a.3 ∙ b.3)
way_one g h os ns (suc j) n x y u v a b = (sym a.3 ∙ b.3, sym a.4 ∙ b.4)

-- a way of a walk that has grown that was one before
pub way_less : (g h : Heap) (w v : Walk) → HasGrown w v → (f n x y : ℕ) → f ≤ length w.before.items
    → IsWay g h v.before.items v.after.items f n x y → IsWay g h w.before.items w.after.items f n x y
way_less g h w v grown zero n x y le way = way
way_less g h w v grown (suc j) n x y le way =
    let p : j < length w.before.items = omega (arith, le) in
    let a = grown.olds j p in
    let b = grown.news j p in (
      p,
      subst (λ q. n < (object_at g q).refs) a way.1,
      subst (λ q. n < (object_at h q).refs) b way.2,
      subst (λ q. word g (q + 1 + n) ≡ x) a way.3,
      subst (λ q. word h (q + 1 + n) ≡ y) b way.4,
    )

pub between_none : (g h : Heap) (w : Walk) (f m : ℕ) → LinksBetween g h w f m f m
between_none g h w f m i j x y from to way = absurd (from to)

-- one place more
pub between_step : (g h : Heap) (w : Walk) (f m k n x y : ℕ) → LinksBetween g h w f m k n → IsWay g h w.before.items w.after.items k n x y
    → IsLinked w k n x y → LinksBetween g h w f m k (n + 1)
between_step g h w f m k n x y links here linked i j u v from to way = elim (way_cases i j k n) [
  | inl e ↦ links i j u v from e way
  | inr d ↦ elim d [
    | inl e ↦
        let there : IsWay g h w.before.items w.after.items k n u v =
        subst (λ z. IsWay g h w.before.items w.after.items z n u v) e.0 (subst (λ z. IsWay g h w.before.items w.after.items i z u v) e.1 way) in
        let one = way_one g h w.before.items w.after.items k n x y u v here there in
        subst (λ z. IsLinked w z j u v) (sym e.0) (subst (λ z. IsLinked w k z u v) (sym e.1)
        (subst (λ z. IsLinked w k n z v) one.0 (subst (λ z. IsLinked w k n x z) one.1 linked)))
    | inr e ↦ absurd (none_between i j k n e to)
  ]
]

-- the row is at its end
pub between_row : (g h : Heap) (w : Walk) (f m k n : ℕ) → LinksBetween g h w f m k n
    → ((j x y : ℕ) → IsWay g h w.before.items w.after.items k j x y → j < n) → LinksBetween g h w f m (k + 1) 0
between_row g h w f m k n links end i j x y from (inr e) way = absurd (omega (arith, e.1))
between_row g h w f m k n links end i j x y from (inl e) way = elim (cases_lt i k) [
  | inl lt ↦ links i j x y from (inl lt) way
  | inr ge ↦
      let same : i ≡ k = omega (arith, e, ge) in
      links i j x y from (inr (same, end j x y (subst (λ z. IsWay g h w.before.items w.after.items z j x y) same way))) way
]

between_kept_by : (g h : Heap) (w v : Walk) (f m k n : ℕ) → HasGrown w v → ((i j : ℕ) → IsEarlier i j k n → i ≤ length w.before.items)
    → LinksBetween g h w f m k n → LinksBetween g h v f m k n
between_kept_by g h w v f m k n grown within links i j x y from to way =
    linked_more w v grown i j x y (links i j x y from to (way_less g h w v grown i j x y (within i j to) way))

pub upto : (k n l i j : ℕ) → k ≤ l → IsEarlier i j k n → i ≤ l
upto k n l i j le (inl e) = omega (arith, e, le)
upto k n l i j le (inr e) = omega (arith, e.0, le)

pub upto_row : (k l i j : ℕ) → k ≤ l + 1 → IsEarlier i j k 0 → i ≤ l
upto_row k l i j le (inl e) = omega (arith, e, le)
upto_row k l i j le (inr e) = absurd (omega (arith, e.1))

pub between_kept : (g h : Heap) (w v : Walk) (f m k n : ℕ) → HasGrown w v → k ≤ length w.before.items → LinksBetween g h w f m k n → LinksBetween g h v f m k n
between_kept g h w v f m k n grown le links = between_kept_by g h w v f m k n grown (λ i j e. upto k n (length w.before.items) i j le e) links

-- at the head of a row
pub between_kept_row : (g h : Heap) (w v : Walk) (f m k : ℕ) → HasGrown w v → k ≤ length w.before.items + 1 → LinksBetween g h w f m k 0 → LinksBetween g h v f m k 0
between_kept_row g h w v f m k grown le links = between_kept_by g h w v f m k 0 grown (λ i j e. upto_row k (length w.before.items) i j le e) links

pub between_trans : (g h : Heap) (w : Walk) (f m k n r s : ℕ) → LinksBetween g h w f m k n → LinksBetween g h w k n r s → LinksBetween g h w f m r s
between_trans g h w f m k n r s a b i j x y from to way = elim (way_cases i j k n) [
  | inl e ↦ a i j x y from e way
  | inr d ↦ b i j x y (λ c. elim d [
    | inl e ↦ elim c [ inl l ↦ omega (arith, l, e.0) | inr l ↦ omega (arith, l.1, e.1) ]
    | inr e ↦ earlier_not i j k n c e
  ]) to way
]

-- nothing is between a way and an earlier one
pub between_less : (g h : Heap) (w : Walk) (f m k n r s : ℕ) → LinksBetween g h w f m k n
    → ((i j : ℕ) → IsEarlier i j r s → IsEarlier i j k n) → LinksBetween g h w f m r s
between_less g h w f m k n r s links within i j x y from to way = links i j x y from (within i j to) way

-- ---- from the first way on

pub never_first : (i j : ℕ) → IsEarlier i j 0 0 → ⊥
never_first i j (inl e) = absurd (omega (arith, e))
never_first i j (inr e) = absurd (omega (arith, e.1))

module _ (g h : Heap) (w : Walk) (tour : IsTour g h w) (count : length g.roots ≡ length h.roots) where
  refs_same : (i : ℕ) → i < length w.before.items → (object_at g (slice_index w.before.items i)).refs ≡ (object_at h (slice_index w.after.items i)).refs
  refs_same i p = ap (λ q. q % 2 ^ 32) (tour.alike i p)

  root_linked : (k n m : ℕ) → LinksBetween g h w 0 0 k n → IsEarlier 0 m k n → m < length g.roots → IsLinked w 0 m (slice_index g.roots m) (slice_index h.roots m)
  root_linked k n m links to p = links 0 m (slice_index g.roots m) (slice_index h.roots m) (never_first 0 m) to (p, omega (arith, p, count), refl, refl)

  slot_linked : (k n i m : ℕ) → LinksBetween g h w 0 0 k n → IsEarlier (suc i) m k n → i < length w.before.items → m < (object_at g (slice_index w.before.items i)).refs
      → IsLinked w (suc i) m (word g (slice_index w.before.items i + 1 + m)) (word h (slice_index w.after.items i + 1 + m))
  slot_linked k n i m links to p q =
      let r = refs_same i p in
      links (suc i) m (word g (slice_index w.before.items i + 1 + m)) (word h (slice_index w.after.items i + 1 + m)) (never_first (suc i) m) to
      (p, q, omega (arith, q, r), refl, refl)

  pub links_to : (k n x y : ℕ) → LinksBetween g h w 0 0 k n → IsWay g h w.before.items w.after.items k n x y → LinksTo g h w k n
  links_to zero n x y links way = λ m lt. root_linked 0 n m links (inr (refl, lt)) (omega (arith, lt, way.0))
  links_to (suc j) n x y links way = (
    λ m lt. root_linked (suc j) n m links (inl (omega arith)) lt,
    λ i lt m q. slot_linked (suc j) n i m links (inl (omega (arith, lt))) (omega (arith, lt, way.0)) q,
    λ m lt. slot_linked (suc j) n j m links (inr (refl, lt)) way.0 (omega (arith, lt, way.1)),
  )

  pub all_roots : LinksBetween g h w 0 0 (length w.before.items + 1) 0 → LinksRoots g h w (length g.roots)
  all_roots links m lt = root_linked (length w.before.items + 1) 0 m links (inl (omega arith)) lt

  pub all_pairs : LinksBetween g h w 0 0 (length w.before.items + 1) 0 → LinksPairs g h w (length w.before.items)
  all_pairs links i lt m q = slot_linked (length w.before.items + 1) 0 i m links (inl (omega (arith, lt))) lt q

-- a walk all of whose pairs are alike
pub walk_of : (g h : Heap) (w : Walk) → IsTour g h w → ((i : ℕ) → i < length w.before.items → AreAlike g h (slice_index w.before.items i) (slice_index w.after.items i)) → IsWalk g h w
walk_of g h w tour alike = record {
  table_before = tour.table_before;
  table_after = tour.table_after;
  index_before = tour.index_before;
  index_after = tour.index_after;
  pairs = tour.pairs;
  froms = tour.froms;
  numbers = tour.numbers;
  names_before = tour.names_before;
  names_after = tour.names_after;
  alike = alike;
  backward = tour.backward;
  ways = tour.ways;
  rising = tour.rising;
}

pub has_ways : {R : ℕ → ℕ → Type 0} (g h : Heap) (w : Walk) → IsWalkOf R g h w → HasWays w
has_ways g h w walk = record { froms = walk.froms; numbers = walk.numbers; backward = walk.backward }

-- ---- pairs that are alike

pub alike_none : (g h : Heap) (w : Walk) → FindsAlike g h w w
alike_none g h w i ge lt = absurd (omega (arith, ge, lt))

pub alike_more : (g h : Heap) (w v u : Walk) → FindsAlike g h w v → FindsAlike g h v u → HasGrown v u → FindsAlike g h w u
alike_more g h w v u a b grown i ge lt = elim (cases_lt i (length v.before.items)) [
  | inl p ↦ subst (λ z. AreAlike g h z (slice_index u.after.items i)) (sym (grown.olds i p))
      (subst (λ z. AreAlike g h (slice_index v.before.items i) z) (sym (grown.news i p)) (a i ge p))
  | inr p ↦ b i p lt
]

-- ---- what a way leads to is a reference

pub way_names_before : {R : ℕ → ℕ → Type 0} (g h : Heap) (w : Walk) → IsValid g → IsWalkOf R g h w → (f n x y : ℕ) → IsWay g h w.before.items w.after.items f n x y → IsReference g x
way_names_before g h w valid walk zero n x y way = subst (IsReference g) way.2 (root_names g n valid way.0)
way_names_before g h w valid walk (suc j) n x y way = subst (IsReference g) way.3 (slot_names g (slice_index w.before.items j) n valid (walk.names_before j way.0) way.1)

pub way_names_after : {R : ℕ → ℕ → Type 0} (g h : Heap) (w : Walk) → IsValid h → IsWalkOf R g h w → (f n x y : ℕ) → IsWay g h w.before.items w.after.items f n x y → IsReference h y
way_names_after g h w valid walk zero n x y way = subst (IsReference h) way.3 (root_names h n valid way.1)
way_names_after g h w valid walk (suc j) n x y way = subst (IsReference h) way.4 (slot_names h (slice_index w.after.items j) n valid (walk.names_after j way.0) way.2)

pub way_within : (g h : Heap) (w : Walk) (f n x y : ℕ) → IsWay g h w.before.items w.after.items f n x y → f ≤ length w.before.items
way_within g h w zero n x y way = omega arith
way_within g h w (suc j) n x y way = omega (arith, way.0)

-- pairs that were found by ways before one were found before a later one
pub below_later : (w : Walk) (f n k m : ℕ) → IsBelow w f n → IsEarlier f n k m → IsBelow w k m
below_later w f n k m below e i p = earlier_trans _ _ f n k m (below i p) e

-- each pair leads back to one before it, so all ways of pairs are before the one behind the last
pub below_end : (w : Walk) → HasWays w → IsBelow w (length w.before.items + 1) 0
below_end w ways i p = let b = ways.backward i p in inl (omega (arith, b, p))

-- ---- what stands at a way

pub route_more : (w v : Walk) → HasGrown w v → (f n : ℕ) (p : List ℕ) → IsRoute w f n p → IsRoute v f n p
route_more w v grown f n p (root m) = root m
route_more w v grown f n p (slot j m q lt r) =
    let s = route_more w v grown (slice_index w.from.items j) (slice_index w.number.items j) q r in
    slot j m q (omega (arith, lt, grown.more))
    (subst (λ z. IsRoute v z (slice_index v.number.items j) q) (sym (grown.froms j lt)) (subst (λ z. IsRoute v (slice_index w.from.items j) z q) (sym (grown.numbers j lt)) s))

differs_at : (g h : Heap) (w : Walk) (P : ℕ → Type 0) → IsTour g h w → (f n x y : ℕ) (p : List ℕ) (what : What) → IsBelow w f n → IsRoute w f n p → Differs g h w P what x y → DiffersAt g h p what x y
differs_at g h w P tour f n x y p (what.Stale z) below r d = d.1
differs_at g h w P tour f n x y p (what.How how) below r d = seen_clash g h w tour f n x y p how below r d.0

-- a difference that a walk found stands where its path ends, also in the walk when it has grown
pub is_there : (g h : Heap) (s : StaleWords) (w v : Walk) (f : Found) → IsTour g h w → IsFound g h s w f → HasGrown w v → IsThere g h v f
is_there g h s w v f tour found grown =
    let k : ℕ = f.place.way.from in
    let n : ℕ = f.place.way.number in
    let x : ℕ = f.place.before in
    let y : ℕ = f.place.after in
    let within : k ≤ length w.before.items = way_within g h w k n x y found.way in
    let q = route_of g h w tour k n within in
    let shows : ShowsAt g h q.0 f = (
      route_leads g h w tour k n q.0 q.1 x y found.way,
      differs_at g h w (IsStaleAt s w k n) tour k n x y q.0 f.what found.below q.1 found.differs,
    ) in (
      omega (arith, within, grown.more),
      λ p r. subst (λ z. ShowsAt g h z f) (route_one v k n q.0 p (route_more w v grown k n q.0 q.1) r) shows,
    )

-- a difference of data words alone is of two objects that are new
pub index_new : (table l : List ℕ) → IsIndex table l → (a : ℕ) → a < length table → IsNew l a → slice_index table a ≡ 0
index_new table l index a lt new = elim (cases_lt 0 (slice_index table a)) [
  | inl some ↦ absurd (let k = index_some table l index a lt (λ e. omega (arith, e, some)) in new (slice_index table a - 1) k.0 k.1)
  | inr none ↦ omega (arith, none)
]

pub differs_by : (g h : Heap) (w : Walk) (P Q : ℕ → Type 0) (what : What) (x y : ℕ) → ((z : ℕ) → P z → Q z) → Differs g h w P what x y → Differs g h w Q what x y
differs_by g h w P Q (what.Stale z) x y f d = (f z d.0, d.1)
differs_by g h w P Q (what.How how) x y f d = d

pub not_before : (k m n : ℕ) → m ≤ n → IsEarlier k n k m → ⊥
not_before k m n le (inl e) = absurd (omega (arith, e))
not_before k m n le (inr e) = absurd (omega (arith, le, e.1))

pub never_same : (f n : ℕ) → IsEarlier f n f n → ⊥
never_same f n (inl e) = absurd (omega (arith, e))
never_same f n (inr e) = absurd (omega (arith, e.1))

-- a way that is not before another one
earlier_cases : (i j f m k n : ℕ) → (IsEarlier k n i j → ⊥) → IsEarlier k n f m → IsEarlier i j f m
earlier_cases i j f m k n never e = elim (way_cases k n i j) [
  | inl d ↦ absurd (never d)
  | inr d ↦ elim d [
    | inl s ↦ subst (λ z. IsEarlier z j f m) s.0 (subst (λ z. IsEarlier k z f m) s.1 e)
    | inr s ↦ earlier_trans i j k n f m s e
  ]
]

pub later_way : (i j k n f m : ℕ) → (IsEarlier i j k n → ⊥) → (IsEarlier k n f m → ⊥) → IsEarlier i j f m → ⊥
later_way i j k n f m a b e = b (earlier_cases k n f m i j a e)

pub later_row : (k n f m : ℕ) → (IsEarlier k n f m → ⊥) → IsEarlier (k + 1) 0 f m → ⊥
later_row k n f m never (inl e) = never (inl (omega (arith, e)))
later_row k n f m never (inr e) = never (inl (omega (arith, e.0)))

pub row_within : (l k n : ℕ) → l < k → (i j : ℕ) → IsEarlier i j (l + 1) 0 → IsEarlier i j k n
row_within l k n lt i j (inl e) = inl (omega (arith, lt, e))
row_within l k n lt i j (inr e) = absurd (omega (arith, e.1))

pub row_not_first : (m : ℕ) → IsEarlier 1 0 0 m → ⊥
row_not_first m (inl e) = absurd (omega (arith, e))
row_not_first m (inr e) = absurd (omega (arith, e.0))

pub tour_of : (g h : Heap) (w : Walk) → IsWalk g h w → IsTour g h w
tour_of g h w walk = record {
  table_before = walk.table_before;
  table_after = walk.table_after;
  index_before = walk.index_before;
  index_after = walk.index_after;
  pairs = walk.pairs;
  froms = walk.froms;
  numbers = walk.numbers;
  names_before = walk.names_before;
  names_after = walk.names_after;
  alike = λ i p. (walk.alike i p).header;
  backward = walk.backward;
  ways = walk.ways;
  rising = walk.rising;
}

none_in : {A : Type 0} (l : List A) (x : A) → l ≡ [] → Contains l x → ⊥
none_in l x e c = none_contains x (subst (λ l. Contains l x) e c)

-- without stale words none is at a place
pub no_stale : (s : StaleWords) (w : Walk) (f n z : ℕ) → s.roots.now ≡ [] → s.slots.now ≡ [] → IsStaleAt s w f n z → ⊥
no_stale s w zero n z roots slots c = none_in s.roots.now (n, z) roots c
no_stale s w (suc j) n z roots slots c = none_in s.slots.now (slice_index w.after.items j + 1 + n, z) slots c

-- what was found before the way of a difference is alike, whatever this way adds
pub until_more : (g h : Heap) (w u v : Walk) (f n : ℕ) → FindsAlike g h w u → AddsOnly u v f n → HasGrown u v → FindsAlikeUntil g h w v f n
until_more g h w u v f n alike one grown i ge lt e = elim (cases_lt i (length u.before.items)) [
  | inl p ↦ subst (λ z. AreAlike g h z (slice_index v.after.items i)) (sym (grown.olds i p))
      (subst (λ z. AreAlike g h (slice_index u.before.items i) z) (sym (grown.news i p)) (alike i ge p))
  | inr p ↦ let o = one i p lt in absurd (never_same f n (subst (λ z. IsEarlier z n f n) o.0 (subst (λ z. IsEarlier (slice_index v.from.items i) z f n) o.1 e)))
]
