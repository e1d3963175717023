-- The paths of ways: they lead where the ways lead, and stand in breadth-first order.
use Rattle.std.proofs.Common.{◌≡◌, ℕ, zero, suc, ◌+◌, ◌<◌, ◌≤◌, ◌++◌, inl, inr, List, [], ◌∷◌, length, refl, sym, ap, subst, arith, slice_index}
use Rattle.std.proofs.lemmas.List.{length_push}
use Rattle.g1_words.specs.Heap.{Heap, word, object_at}
use Rattle.g1_same.specs.declared.walk.Walk.{Walk}
use Rattle.g1_same.specs.declared.difference.How.{How}
use Rattle.g1_same.specs.declared.difference.How.TheVariants.{NullBefore, NullAfter, Split, Joined, Size, Slots, Data}
use Rattle.g1_same.specs.Path.{Leads, LeadsTo, Together, Lower, Before}
use Rattle.g1_same.specs.Same.{IsClash, ClashAt}
use Rattle.g1_same.specs.Walk.{IsWay, IsWalkOf, IsEarlier, IsBelow, IsSeen, IsRoute, root, slot}
use Rattle.g1_same.proofs.Linked.{Stop, IsStop}

-- ---- order

lower_push : (p q : List ℕ) (m n : ℕ) → length p ≡ length q → Lower p q → Lower (p ++ m ∷ []) (q ++ n ∷ [])
lower_push [] q m n e l = absurd l
lower_push (x ∷ p) [] m n e l = absurd l
lower_push (x ∷ p) (y ∷ q) m n e (inl l) = inl l
lower_push (x ∷ p) (y ∷ q) m n e (inr l) = inr (l.0, lower_push p q m n (omega (arith, e)) l.1)

pub before_push : (p q : List ℕ) (m n : ℕ) → Before p q → Before (p ++ m ∷ []) (q ++ n ∷ [])
before_push p q m n (inl l) = inl (omega (arith, l, length_push p m, length_push q n))
before_push p q m n (inr l) = inr (omega (arith, l.0, length_push p m, length_push q n), lower_push p q m n l.0 l.1)

lower_last : (p : List ℕ) (m n : ℕ) → m < n → Lower (p ++ m ∷ []) (p ++ n ∷ [])
lower_last [] m n l = inl l
lower_last (x ∷ p) m n l = inr (refl, lower_last p m n l)

pub before_last : (p : List ℕ) (m n : ℕ) → m < n → Before (p ++ m ∷ []) (p ++ n ∷ [])
before_last p m n l = inr (omega (arith, length_push p m, length_push p n), lower_last p m n l)

-- ---- what paths lead to

leads_push : (h : Heap) (ss : List ℕ) (x a n y : ℕ) → Leads h ss x (suc a) → n < (object_at h a).refs → word h (a + 1 + n) ≡ y → Leads h (ss ++ n ∷ []) x y
leads_push h [] x a n y l lt e = subst (λ z. Leads h (n ∷ []) z y) (sym l) (lt, e)
leads_push h (s ∷ ss) zero a n y l lt e = absurd l
leads_push h (s ∷ ss) (suc b) a n y l lt e = (l.0, leads_push h ss (word h (b + 1 + s)) a n y l.1 lt e)

pub leads_to_push : (h : Heap) (p : List ℕ) (a n y : ℕ) → LeadsTo h p (suc a) → n < (object_at h a).refs → word h (a + 1 + n) ≡ y → LeadsTo h (p ++ n ∷ []) y
leads_to_push h [] a n y l lt e = absurd l
leads_to_push h (k ∷ ss) a n y l lt e = (l.0, leads_push h ss (slice_index h.roots k) a n y l.1 lt e)

-- ---- ways

pub route_some : (w : Walk) (f n : ℕ) (p : List ℕ) → IsRoute w f n p → 0 < length p
route_some w f n p (root m) = omega arith
route_some w f n p (slot j m q lt r) = omega (arith, length_push q m)

-- a way has one path
pub route_one : (w : Walk) (f n : ℕ) (p q : List ℕ) → IsRoute w f n p → IsRoute w f n q → p ≡ q
route_one w f n p q (root m) (root k) = refl
route_one w f n p q (slot j m a lt r) (slot k l b gt s) = ap (λ z. z ++ m ∷ []) (route_one w _ _ a b r s)

module _ {R : ℕ → ℕ → Type 0} (g h : Heap) (w : Walk) (walk : IsWalkOf R g h w) where
  -- a way has a path
  route_by : (t f n : ℕ) → f ≤ t → f ≤ length w.before.items → (p : List ℕ) × IsRoute w f n p
  route_by t zero n le lt = (n ∷ [], root n)
  route_by zero (suc j) n le lt = absurd (omega (arith, le))
  route_by (suc t) (suc j) n le lt =
      let b = walk.backward j (omega (arith, lt)) in
      let r = route_by t (slice_index w.from.items j) (slice_index w.number.items j) (omega (arith, b, le)) (omega (arith, b, lt)) in
      (r.0 ++ n ∷ [], slot j n r.0 (omega (arith, lt)) r.1)

  pub route_of : (f n : ℕ) → f ≤ length w.before.items → (p : List ℕ) × IsRoute w f n p
  route_of f n lt = route_by f f n (omega arith) lt

  -- it leads to the words of the way
  pub route_leads : (f n : ℕ) (p : List ℕ) → IsRoute w f n p → (x y : ℕ) → IsWay g h w.before.items w.after.items f n x y → Together g h p x y
  route_leads f n p (root m) x y way = ((way.0, way.2), (way.1, way.3))
  route_leads f n p (slot j m q lt r) x y way =
      let t = route_leads (slice_index w.from.items j) (slice_index w.number.items j) q r (suc (slice_index w.before.items j)) (suc (slice_index w.after.items j)) (walk.ways j lt) in
      (leads_to_push g q (slice_index w.before.items j) m x t.0 way.1 way.3, leads_to_push h q (slice_index w.after.items j) m y t.1 way.2 way.4)

  -- an earlier way has an earlier path
  pub route_before : (t f m k n : ℕ) (p q : List ℕ) → k ≤ t → IsEarlier f m k n → IsRoute w f m p → IsRoute w k n q → Before p q
  route_before t f m k n p q le (inl e) (root a) (root b) = absurd (omega (arith, e))
  route_before t f m k n p q le (inr e) (root a) (root b) = inr (refl, inl e.1)
  route_before t f m k n p q le e (root a) (slot j b s lt r) = inl (omega (arith, length_push s b, route_some w _ _ s r))
  route_before t f m k n p q le (inl e) (slot i a o gt l) (root b) = absurd (omega (arith, e))
  route_before t f m k n p q le (inr e) (slot i a o gt l) (root b) = absurd (omega (arith, e.0))
  route_before zero f m k n p q le e (slot i a o gt l) (slot j b s lt r) = absurd (omega (arith, le))
  route_before (suc t) f m k n p q le (inl e) (slot i a o gt l) (slot j b s lt r) =
      let back = walk.backward j lt in
      before_push o s a b (route_before t (slice_index w.from.items i) (slice_index w.number.items i) (slice_index w.from.items j)
      (slice_index w.number.items j) o s (omega (arith, back, le)) (walk.rising i j (omega (arith, e)) lt) l r)
  route_before (suc t) f m k n p q le (inr e) (slot i a o gt l) (slot j b s lt r) =
      let same : i ≡ j = omega (arith, e.0) in
      let one : o ≡ s = route_one w (slice_index w.from.items j) (slice_index w.number.items j) o s (subst (λ z. IsRoute w (slice_index w.from.items z) (slice_index w.number.items z) o) same l) r in
      subst (λ z. Before (o ++ a ∷ []) (z ++ b ∷ [])) one (before_last o a b e.1)

  -- the pair at a place has a path that comes before all ways after its own
  earlier_path : (i f n : ℕ) (p : List ℕ) → i < length w.before.items → IsBelow w f n → IsRoute w f n p
      → (q : List ℕ) × Before q p × Together g h q (suc (slice_index w.before.items i)) (suc (slice_index w.after.items i))
  earlier_path i f n p lt below r =
      let back = walk.backward i lt in
      let q = route_of (slice_index w.from.items i) (slice_index w.number.items i) (omega (arith, back, lt)) in (
        q.0,
        route_before f (slice_index w.from.items i) (slice_index w.number.items i) f n q.0 p (omega arith) (below i lt) q.1 r,
        route_leads (slice_index w.from.items i) (slice_index w.number.items i) q.0 q.1 (suc (slice_index w.before.items i)) (suc (slice_index w.after.items i)) (walk.ways i lt),
      )

  -- what was seen is so at the path
  pub seen_clash : (f n x y : ℕ) (p : List ℕ) (how : How) → IsBelow w f n → IsRoute w f n p → IsSeen g h w how x y → IsClash g h p how x y
  seen_clash f n x y p NullBefore below r s = s p
  seen_clash f n x y p NullAfter below r s = s p
  seen_clash f n x y p (Split a m k) below r s =
      let q = earlier_path s.3 f n p s.4 below r in
      (s.0, s.1, s.2, q.0, q.1, subst (λ z. Together g h q.0 (suc z) (suc m)) s.5 (subst (λ z. Together g h q.0 (suc (slice_index w.before.items s.3)) (suc z)) s.6 q.2))
  seen_clash f n x y p (Joined m k b) below r s =
      let q = earlier_path s.3 f n p s.4 below r in
      (s.0, s.1, s.2, q.0, q.1, subst (λ z. Together g h q.0 (suc z) (suc b)) s.5 (subst (λ z. Together g h q.0 (suc (slice_index w.before.items s.3)) (suc z)) s.6 q.2))
  seen_clash f n x y p (Size a b) below r s = s p
  seen_clash f n x y p (Slots a b) below r s = s p
  seen_clash f n x y p (Data a) below r s = s p

  -- where a walk ends there is a difference
  pub stopped : (s : Stop) (p : List ℕ) → IsStop g h w s → IsRoute w s.way.from s.way.number p → ClashAt g h p s.how
  stopped s p k r = (k.0, k.1, route_leads s.way.from s.way.number p r k.0 k.1 k.2, seen_clash s.way.from s.way.number k.0 k.1 p s.how k.4 r k.3)
