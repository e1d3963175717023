-- Where a walk ends, no difference comes before.
use Rattle.std.proofs.Common.{◌≡◌, ◌≢◌, ℕ, zero, suc, ◌+◌, ◌<◌, ◌≤◌, ◌/◌, ◌%◌, ◌^◌, ◌++◌, ◌⊎◌, inl, inr, List, [], ◌∷◌, Vec, Global, length, Contains, refl, sym, ap, subst, ◌∙◌, arith, slice_index}
use Rattle.std.proofs.lemmas.Bool.{cases_lt}
use Rattle.std.proofs.lemmas.List.{length_push}
use Rattle.g1_words.specs.Heap.{Heap, word, object_at}
use Rattle.g1_words.specs.Valid.{IsValid}
use Rattle.g1_same.specs.declared.walk.Walk.{Walk}
use Rattle.g1_same.specs.declared.difference.How.{How}
use Rattle.g1_same.specs.declared.difference.How.TheVariants.{NullBefore, NullAfter, Split, Joined, Size, Slots, Data}
use Rattle.g1_same.specs.declared.difference.Difference.TheVariants.{At}
use Rattle.g1_same.specs.Path.{Leads, LeadsTo, Together, Lower, Before}
use Rattle.g1_same.specs.Same.{IsClash, ClashAt, rank, IsFirstDifference}
use Rattle.g1_same.specs.Stale.{LeadsToStale}
use Rattle.g1_same.specs.Walk.{AreAlike, IsWay, IsWalkOf, IsWalk, IsEarlier, IsLinked, IsNew, IsLeast, IsRoute, root, slot}
use Rattle.g1_same.proofs.Linked.{Stop, IsStop, LinksTo}
use Rattle.g1_same.proofs.Following.{leads_to_one}
use Rattle.g1_same.proofs.Tables.{index_apart}
use Rattle.g1_same.proofs.Adding.{before_within, after_within}
use Rattle.g1_same.proofs.Routes.{route_of, route_one, route_before, before_push, stopped, route_leads, seen_clash}

-- ---- the order of paths

lower_never : (p : List ℕ) → Lower p p → ⊥
lower_never [] l = l
lower_never (x ∷ p) (inl l) = absurd (omega (arith, l))
lower_never (x ∷ p) (inr l) = lower_never p l.1

before_never : (p : List ℕ) → Before p p → ⊥
before_never p (inl l) = absurd (omega (arith, l))
before_never p (inr l) = lower_never p l.1

pub lower_trans : (p q r : List ℕ) → Lower p q → Lower q r → Lower p r
lower_trans [] q r a b = absurd a
lower_trans (x ∷ p) [] r a b = absurd a
lower_trans (x ∷ p) (y ∷ q) [] a b = absurd b
lower_trans (x ∷ p) (y ∷ q) (z ∷ r) (inl a) (inl b) = inl (omega (arith, a, b))
lower_trans (x ∷ p) (y ∷ q) (z ∷ r) (inl a) (inr b) = inl (omega (arith, a, b.0))
lower_trans (x ∷ p) (y ∷ q) (z ∷ r) (inr a) (inl b) = inl (omega (arith, a.0, b))
lower_trans (x ∷ p) (y ∷ q) (z ∷ r) (inr a) (inr b) = inr (a.0 ∙ b.0, lower_trans p q r a.1 b.1)

pub before_trans : (p q r : List ℕ) → Before p q → Before q r → Before p r
before_trans p q r (inl a) (inl b) = inl (omega (arith, a, b))
before_trans p q r (inl a) (inr b) = inl (omega (arith, a, b.0))
before_trans p q r (inr a) (inl b) = inl (omega (arith, a.0, b))
before_trans p q r (inr a) (inr b) = inr (a.0 ∙ b.0, lower_trans p q r a.1 b.1)

abbrev NotAfter : List ℕ → List ℕ → Type 0
NotAfter p q = (p ≡ q) ⊎ Before p q

not_after_before : (p q r : List ℕ) → NotAfter p q → Before q r → Before p r
not_after_before p q r (inl e) b = subst (λ z. Before z r) (sym e) b
not_after_before p q r (inr a) b = before_trans p q r a b

not_after_trans : (p q r : List ℕ) → NotAfter p q → NotAfter q r → NotAfter p r
not_after_trans p q r (inl e) b = subst (λ z. NotAfter z r) (sym e) b
not_after_trans p q r (inr a) (inl e) = inr (subst (Before p) e a)
not_after_trans p q r (inr a) (inr b) = inr (before_trans p q r a b)

not_after_push : (p q : List ℕ) (s : ℕ) → NotAfter p q → NotAfter (p ++ s ∷ []) (q ++ s ∷ [])
not_after_push p q s (inl e) = inl (ap (λ z. z ++ s ∷ []) e)
not_after_push p q s (inr b) = inr (before_push p q s s b)

-- ---- the last step of a path

pub last_of : (k : ℕ) (p : List ℕ) → (p ≡ []) ⊎ ((q : List ℕ) × (s : ℕ) × (k ∷ p ≡ (k ∷ q) ++ s ∷ []))
last_of k [] = inl refl
last_of k (x ∷ p) = elim (last_of x p) [
  | inl e ↦ inr ([], x, ap (λ z. k ∷ x ∷ z) e)
  | inr r ↦ inr (x ∷ r.0, r.1, ap (λ z. k ∷ z) r.2)
]

leads_last : (h : Heap) (ss : List ℕ) (s x y : ℕ) → Leads h (ss ++ s ∷ []) x y → (a : ℕ) × Leads h ss x (suc a) × (s < (object_at h a).refs) × (word h (a + 1 + s) ≡ y)
leads_last h [] s zero y l = absurd l
leads_last h [] s (suc a) y l = (a, refl, l.0, l.1)
leads_last h (n ∷ ss) s zero y l = absurd l
leads_last h (n ∷ ss) s (suc b) y l = let r = leads_last h ss s (word h (b + 1 + n)) y l.1 in (r.0, (l.0, r.1), r.2, r.3)

pub leads_to_last : (h : Heap) (p : List ℕ) (s y : ℕ) → 0 < length p → LeadsTo h (p ++ s ∷ []) y → (a : ℕ) × LeadsTo h p (suc a) × (s < (object_at h a).refs) × (word h (a + 1 + s) ≡ y)
leads_to_last h [] s y lt l = absurd (omega (arith, lt))
leads_to_last h (k ∷ ss) s y lt l = let r = leads_last h ss s (slice_index h.roots k) y l.1 in (r.0, (l.0, r.1), r.2, r.3)

pub leads_some : (h : Heap) (p : List ℕ) (y : ℕ) → LeadsTo h p y → 0 < length p
leads_some h [] y l = absurd l
leads_some h (k ∷ p) y l = omega arith

pub way_cases : (f m k n : ℕ) → IsEarlier f m k n ⊎ (((f ≡ k) × (m ≡ n)) ⊎ IsEarlier k n f m)
way_cases f m k n = elim (cases_lt f k) [
  | inl a ↦ inl (inl a)
  | inr a ↦ elim (cases_lt k f) [
    | inl b ↦ inr (inr (inl b))
    | inr b ↦
        let e : f ≡ k = omega arith in
        elim (cases_lt m n) [
          | inl c ↦ inl (inr (e, c))
          | inr c ↦ elim (cases_lt n m) [ inl d ↦ inr (inr (inr (sym e, d))) | inr d ↦ inr (inl (e, omega arith)) ]
        ]
  ]
]

-- no way is between one and the next of its row
pub none_between : (a b k m : ℕ) → IsEarlier k m a b → IsEarlier a b k (m + 1) → ⊥
none_between a b k m (inl e) (inl d) = absurd (omega (arith, e, d))
none_between a b k m (inl e) (inr d) = absurd (omega (arith, e, d.0))
none_between a b k m (inr e) (inl d) = absurd (omega (arith, e.0, d))
none_between a b k m (inr e) (inr d) = absurd (omega (arith, e.1, d.1))

-- all ways before this one are linked
abbrev pub LinksEarlier : Heap → Heap → Walk → ℕ → ℕ → Type 0
LinksEarlier g h w f n = (k m x y : ℕ) → IsEarlier k m f n → IsWay g h w.before.items w.after.items k m x y → IsLinked w k m x y

-- all pairs that were found by ways before this one are alike
abbrev pub AlikeEarlier : Heap → Heap → Walk → ℕ → ℕ → Type 0
AlikeEarlier g h w f n =
    (i : ℕ) → i < length w.before.items → IsEarlier (slice_index w.from.items i) (slice_index w.number.items i) f n
    → AreAlike g h (slice_index w.before.items i) (slice_index w.after.items i)

module _ (g h : Heap) (w : Walk) (n : ℕ) where
  way_linked : (f k m x y : ℕ) → LinksTo g h w f n → IsEarlier k m f n → IsWay g h w.before.items w.after.items k m x y → IsLinked w k m x y
  way_linked zero zero m x y links (inl e) way = absurd (omega (arith, e))
  way_linked zero zero m x y links (inr e) way = subst (λ z. IsLinked w 0 m z y) way.2 (subst (λ z. IsLinked w 0 m (slice_index g.roots m) z) way.3 (links m e.1))
  way_linked zero (suc i) m x y links (inl e) way = absurd (omega (arith, e))
  way_linked zero (suc i) m x y links (inr e) way = absurd (omega (arith, e.0))
  way_linked (suc j) zero m x y links e way = subst (λ z. IsLinked w 0 m z y) way.2 (subst (λ z. IsLinked w 0 m (slice_index g.roots m) z) way.3 (links.0 m way.0))
  way_linked (suc j) (suc i) m x y links (inl e) way =
      subst (λ z. IsLinked w (suc i) m z y) way.3 (subst (λ z. IsLinked w (suc i) m (word g (slice_index w.before.items i + 1 + m)) z) way.4 (links.1 i (omega (arith, e)) m way.1))
  way_linked (suc j) (suc i) m x y links (inr e) way =
      let same : j ≡ i = omega (arith, e.0) in
      let l = subst (λ z. IsLinked w (suc z) m (word g (slice_index w.before.items z + 1 + m)) (word h (slice_index w.after.items z + 1 + m))) same (links.2 m e.1) in
      subst (λ z. IsLinked w (suc i) m z y) way.3 (subst (λ z. IsLinked w (suc i) m (word g (slice_index w.before.items i + 1 + m)) z) way.4 l)

module _ {R : ℕ → ℕ → Type 0} (g h : Heap) (left : IsValid g) (right : IsValid h) (w : Walk) (walk : IsWalkOf R g h w) (f n : ℕ) (p : List ℕ) (links : LinksEarlier g h w f n) (at : IsRoute w f n p)
    (alike : AlikeEarlier g h w f n) where
  abbrev IsFound : List ℕ → ℕ → ℕ → Type 0
  IsFound q x y =
      ((x ≡ 0) × (y ≡ 0))
      ⊎ ((i : ℕ) × (i < length w.before.items) × (x ≡ suc (slice_index w.before.items i)) × (y ≡ suc (slice_index w.after.items i))
      × (c : List ℕ) × IsRoute w (slice_index w.from.items i) (slice_index w.number.items i) c × NotAfter c q)

  -- the way of an earlier path is an earlier way
  earlier_of : (k m : ℕ) (q : List ℕ) → IsRoute w k m q → Before q p → IsEarlier k m f n
  earlier_of k m q r b = elim (way_cases k m f n) [
    | inl e ↦ e
    | inr d ↦ elim d [
      | inl e ↦ absurd (before_never p (subst (λ z. Before z p) (route_one w f n q p (subst (λ z. IsRoute w z n q) e.0 (subst (λ z. IsRoute w k z q) e.1 r)) at) b))
      | inr e ↦ absurd (before_never p (before_trans p q p (route_before g h w walk k f n k m p q (omega arith) e at r) b))
    ]
  ]

  found_by : (k m : ℕ) (q : List ℕ) (x y : ℕ) → IsRoute w k m q → IsLinked w k m x y → IsFound q x y
  found_by k m q x y r (inl e) = inl e
  found_by k m q x y r (inr l) =
      let back = walk.backward l.0 l.1 in
      let c = route_of g h w walk (slice_index w.from.items l.0) (slice_index w.number.items l.0) (omega (arith, back, l.1)) in
      inr (
        l.0,
        l.1,
        l.2,
        l.3,
        c.0,
        c.1,
        elim (way_cases (slice_index w.from.items l.0) (slice_index w.number.items l.0) k m) [
          | inl e ↦ inr (route_before g h w walk k (slice_index w.from.items l.0) (slice_index w.number.items l.0) k m c.0 q (omega arith) e c.1 r)
          | inr d ↦ elim d [
            | inl e ↦ inl (route_one w k m c.0 q (subst (λ z. IsRoute w z m c.0) e.0 (subst (λ z. IsRoute w (slice_index w.from.items l.0) z c.0) e.1 c.1)) r)
            | inr e ↦ absurd (none_between (slice_index w.from.items l.0) (slice_index w.number.items l.0) k m e l.4)
          ]
        ],
      )

  -- what earlier paths lead to together was found, by them or before
  found_at : (t : ℕ) (q : List ℕ) (x y : ℕ) → length q ≤ t → Before q p → Together g h q x y → IsFound q x y
  found_at t [] x y le b u = absurd u.0
  found_at zero (k ∷ ss) x y le b u = absurd (omega (arith, le))
  found_at (suc t) (k ∷ ss) x y le b u = elim (last_of k ss) [
    | inl e ↦
        let v : Together g h (k ∷ []) x y = subst (λ z. Together g h (k ∷ z) x y) e u in
        let c : Before (k ∷ []) p = subst (λ z. Before (k ∷ z) p) e b in
        let l = links 0 k x y (earlier_of 0 k (k ∷ []) (root k) c) (v.0.0, v.1.0, v.0.1, v.1.1) in
        subst (λ z. IsFound (k ∷ z) x y) (sym e) (found_by 0 k (k ∷ []) x y (root k) l)
    | inr r ↦
        let q : List ℕ = k ∷ r.0 in
        let s : ℕ = r.1 in
        let whole : length (k ∷ ss) ≡ length q + 1 = ap length r.2 ∙ length_push q s in
        let v : Together g h (q ++ s ∷ []) x y = subst (λ z. Together g h z x y) r.2 u in
        let c : Before (q ++ s ∷ []) p = subst (λ z. Before z p) r.2 b in
        let o = leads_to_last g q s x (omega arith) v.0 in
        let d = leads_to_last h q s y (omega arith) v.1 in
        let short : Before q (q ++ s ∷ []) = inl (omega (arith, length_push q s)) in
        let up = found_at t q (suc o.0) (suc d.0) (omega (arith, le, whole)) (before_trans q (q ++ s ∷ []) p short c) (o.1, d.1) in
        subst (λ z. IsFound z x y) (sym r.2) (next q s x y o.0 d.0 c o.2 d.2 o.3 d.3 up)
  ]
    where
      next : (q : List ℕ) (s x y a b : ℕ) → Before (q ++ s ∷ []) p → s < (object_at g a).refs → s < (object_at h b).refs → word g (a + 1 + s) ≡ x → word h (b + 1 + s) ≡ y
          → IsFound q (suc a) (suc b) → IsFound (q ++ s ∷ []) x y
      next q s x y a b c lg lh eg eh (inl e) = absurd (omega (arith, e.0))
      next q s x y a b c lg lh eg eh (inr i) =
          let ea : a ≡ slice_index w.before.items i.0 = omega (arith, i.2) in
          let eb : b ≡ slice_index w.after.items i.0 = omega (arith, i.3) in
          let r : IsRoute w (suc i.0) s (i.4 ++ s ∷ []) = slot i.0 s i.4 i.1 i.5 in
          let near : NotAfter (i.4 ++ s ∷ []) (q ++ s ∷ []) = not_after_push i.4 q s i.6 in
          let way : IsWay g h w.before.items w.after.items (suc i.0) s x y = (
            i.1,
            subst (λ z. s < (object_at g z).refs) ea lg,
            subst (λ z. s < (object_at h z).refs) eb lh,
            subst (λ z. word g (z + 1 + s) ≡ x) ea eg,
            subst (λ z. word h (z + 1 + s) ≡ y) eb eh,
          ) in
          let l = links (suc i.0) s x y (earlier_of (suc i.0) s (i.4 ++ s ∷ []) r (not_after_before (i.4 ++ s ∷ []) (q ++ s ∷ []) p near c)) way in
          weaken (found_by (suc i.0) s (i.4 ++ s ∷ []) x y r l) near
        where
          weaken : IsFound (i.4 ++ s ∷ []) x y → NotAfter (i.4 ++ s ∷ []) (q ++ s ∷ []) → IsFound (q ++ s ∷ []) x y
          weaken (inl e) near = inl e
          weaken (inr j) near = inr (j.0, j.1, j.2, j.3, j.4, j.5, not_after_trans j.4 (i.4 ++ s ∷ []) (q ++ s ∷ []) j.6 near)

  -- the place of what an earlier path leads to
  placed : (q : List ℕ) (a b : ℕ) → Before q p → Together g h q (suc a) (suc b)
      → (i : ℕ) × (i < length w.before.items) × (a ≡ slice_index w.before.items i) × (b ≡ slice_index w.after.items i) × IsEarlier (slice_index w.from.items i) (slice_index w.number.items i) f n
  placed q a b c u = go (found_at (length q) q (suc a) (suc b) (omega arith) c u)
    where
      go : IsFound q (suc a) (suc b)
          → (i : ℕ) × (i < length w.before.items) × (a ≡ slice_index w.before.items i) × (b ≡ slice_index w.after.items i) × IsEarlier (slice_index w.from.items i) (slice_index w.number.items i) f n
      go (inl e) = absurd (omega (arith, e.0))
      go (inr i) = (
        i.0,
        i.1,
        omega (arith, i.2),
        omega (arith, i.3),
        earlier_of (slice_index w.from.items i.0) (slice_index w.number.items i.0) i.4 i.5 (not_after_before i.4 q p i.6 c),
      )

  one_old : (q r : List ℕ) (a m k : ℕ) → Before q p → Before r p → Together g h q (suc a) (suc m) → Together g h r (suc a) (suc k) → m ≡ k
  one_old q r a m k bq br u v =
      let i = placed q a m bq u in
      let j = placed r a k br v in
      let e : i.0 ≡ j.0 = index_apart w.new_of.items w.before.items walk.index_before (before_within g h w left walk) i.0 j.0 i.1 j.1 (sym i.2 ∙ j.2) in
      i.3 ∙ ap (slice_index w.after.items) e ∙ sym j.3

  one_new : (q r : List ℕ) (b m k : ℕ) → Before q p → Before r p → Together g h q (suc m) (suc b) → Together g h r (suc k) (suc b) → m ≡ k
  one_new q r b m k bq br u v =
      let i = placed q m b bq u in
      let j = placed r k b br v in
      let e : i.0 ≡ j.0 = index_apart w.old_of.items w.after.items walk.index_after (after_within g h w right walk) i.0 j.0
      (omega (arith, i.1, walk.pairs)) (omega (arith, j.1, walk.pairs)) (sym i.3 ∙ j.3) in
      i.2 ∙ ap (slice_index w.before.items) e ∙ sym j.2

  alike_at : (q : List ℕ) (x y a b : ℕ) → Before q p → Together g h q x y → x ≡ suc a → y ≡ suc b → AreAlike g h a b
  alike_at q x y a b c u ex ey =
      let v : Together g h q (suc a) (suc b) = subst (λ z. Together g h q z (suc b)) ex (subst (λ z. Together g h q x z) ey u) in
      let i = placed q a b c v in
      subst (λ z. AreAlike g h z b) (sym i.2) (subst (λ z. AreAlike g h (slice_index w.before.items i.0) z) (sym i.3) (alike i.0 i.1 i.4))

  null_both : (q : List ℕ) (x y : ℕ) → Before q p → Together g h q x y → ((x ≡ 0) × (y ≡ 0)) ⊎ ((x ≢ 0) × (y ≢ 0))
  null_both q x y c u = go (found_at (length q) q x y (omega arith) c u)
    where
      go : IsFound q x y → ((x ≡ 0) × (y ≡ 0)) ⊎ ((x ≢ 0) × (y ≢ 0))
      go (inl e) = inl e
      go (inr i) = inr (λ e. absurd (omega (arith, e, i.2)), λ e. absurd (omega (arith, e, i.3)))

  pub none_earlier : (q : List ℕ) (how : How) → Before q p → ClashAt g h q how → ⊥
  none_earlier q NullBefore c k = elim (null_both q k.0 k.1 c k.2) [ inl e ↦ k.3.1 e.1 | inr e ↦ e.0 k.3.0 ]
  none_earlier q NullAfter c k = elim (null_both q k.0 k.1 c k.2) [ inl e ↦ k.3.0 e.0 | inr e ↦ e.1 k.3.1 ]
  none_earlier q (Split a m b) c k =
      let v : Together g h q (suc a) (suc b) = subst (λ z. Together g h q z (suc b)) k.3.0 (subst (λ z. Together g h q k.0 z) k.3.1 k.2) in
      k.3.2 (one_old k.3.3 q a m b (before_trans k.3.3 q p k.3.4 c) c k.3.5 v)
  none_earlier q (Joined m a b) c k =
      let v : Together g h q (suc a) (suc b) = subst (λ z. Together g h q z (suc b)) k.3.0 (subst (λ z. Together g h q k.0 z) k.3.1 k.2) in
      k.3.2 (one_new k.3.3 q b m a (before_trans k.3.3 q p k.3.4 c) c k.3.5 v)
  none_earlier q (Size m o) c k =
      let a = alike_at q k.0 k.1 k.3.0 k.3.1 c k.2 k.3.2 k.3.3 in
      k.3.6 (sym k.3.4 ∙ ap (λ z. z / 2 ^ 32) a.header ∙ k.3.5)
  none_earlier q (Slots m o) c k =
      let a = alike_at q k.0 k.1 k.3.0 k.3.1 c k.2 k.3.2 k.3.3 in
      k.3.6 (sym k.3.4 ∙ ap (λ z. z % 2 ^ 32) a.header ∙ k.3.5)
  none_earlier q (Data m) c k =
      let a = alike_at q k.0 k.1 k.3.0 k.3.1 c k.2 k.3.2 k.3.3 in
      k.3.6 (a.data_words m k.3.5)

  -- an earlier path ends at no stale word
  module _ (roots slots : List (ℕ × ℕ)) (no_root : (k x z : ℕ) → IsEarlier 0 k f n → IsWay g h w.before.items w.after.items 0 k x 0 → Contains roots (k, z) → ⊥)
      (no_slot : (i m x z : ℕ) → IsEarlier (suc i) m f n → IsWay g h w.before.items w.after.items (suc i) m x 0 → Contains slots (slice_index w.after.items i + 1 + m, z) → ⊥) where
    stale_root : (k x z : ℕ) → Before (k ∷ []) p → Together g h (k ∷ []) x 0 → Contains roots (k, z) → ⊥
    stale_root k x z b t c = no_root k x z (earlier_of 0 k (k ∷ []) (root k) b) (t.0.0, t.1.0, t.0.1, t.1.1) c

    stale_slot : (q : List ℕ) (a m x z : ℕ) → Before (q ++ m ∷ []) p → Together g h (q ++ m ∷ []) x 0 → LeadsTo h q (suc a) → Contains slots (a + 1 + m, z) → ⊥
    stale_slot q a m x z b t leads c =
        let some : 0 < length q = leads_some h q (suc a) leads in
        let o = leads_to_last g q m x some t.0 in
        let d = leads_to_last h q m 0 some t.1 in
        let short : Before q (q ++ m ∷ []) = inl (omega (arith, length_push q m)) in
        let same : suc d.0 ≡ suc a = leads_to_one h q (suc d.0) (suc a) d.1 leads in
        go o.0 d.0 o.2 d.2 o.3 d.3 (omega (arith, same)) (found_at (length q) q (suc o.0) (suc d.0) (omega arith) (before_trans q (q ++ m ∷ []) p short b) (o.1, d.1))
      where
        go : (u v : ℕ) → m < (object_at g u).refs → m < (object_at h v).refs → word g (u + 1 + m) ≡ x → word h (v + 1 + m) ≡ 0 → v ≡ a → IsFound q (suc u) (suc v) → ⊥
        go u v lg lh eg eh same (inl e) = absurd (omega (arith, e.0))
        go u v lg lh eg eh same (inr i) =
            let eu : u ≡ slice_index w.before.items i.0 = omega (arith, i.2) in
            let ev : v ≡ slice_index w.after.items i.0 = omega (arith, i.3) in
            let r : IsRoute w (suc i.0) m (i.4 ++ m ∷ []) = slot i.0 m i.4 i.1 i.5 in
            let near : NotAfter (i.4 ++ m ∷ []) (q ++ m ∷ []) = not_after_push i.4 q m i.6 in
            let way : IsWay g h w.before.items w.after.items (suc i.0) m x 0 = (
              i.1,
              subst (λ z. m < (object_at g z).refs) eu lg,
              subst (λ z. m < (object_at h z).refs) ev lh,
              subst (λ z. word g (z + 1 + m) ≡ x) eu eg,
              subst (λ z. word h (z + 1 + m) ≡ 0) ev eh,
            ) in
            no_slot i.0 m x z (earlier_of (suc i.0) m (i.4 ++ m ∷ []) r (not_after_before (i.4 ++ m ∷ []) (q ++ m ∷ []) p near b)) way
            (subst (λ y. Contains slots (y + 1 + m, z)) (sym same ∙ ev) c)

    pub none_stale : (q : List ℕ) (x z : ℕ) → Before q p → LeadsToStale g h roots slots q x z → ⊥
    none_stale q x z b (t, inl e) = stale_root e.0 x z (subst (λ r. Before r p) e.1 b) (subst (λ r. Together g h r x 0) e.1 t) e.2
    none_stale q x z b (t, inr e) = stale_slot e.0 e.1 e.2 x z (subst (λ r. Before r p) e.3 b) (subst (λ r. Together g h r x 0) e.3 t) e.4 e.5

  new_old : (x a m : ℕ) (q : List ℕ) → IsNew w.before.items a → Before q p → Together g h q (suc a) (suc m) → ⊥
  new_old x a m q new c u = let i = placed q a m c u in new i.0 i.1 (sym i.2)

  new_new : (b m : ℕ) (q : List ℕ) → IsNew w.after.items b → Before q p → Together g h q (suc m) (suc b) → ⊥
  new_new b m q new c u = let i = placed q m b c u in new i.0 (omega (arith, i.1, walk.pairs)) (sym i.3)

  -- what is told is the first of what may be told of two words
  none_lower : (x y : ℕ) (how other : How) → IsClash g h p how x y → IsLeast g h w how x y → rank other < rank how → IsClash g h p other x y → ⊥
  none_lower x y NullBefore other k l lt c = absurd (omega (arith, lt))
  none_lower x y NullAfter NullBefore k l lt c = k.0 c.0
  none_lower x y (Split a m b) NullBefore k l lt c = absurd (omega (arith, k.0, c.0))
  none_lower x y (Split a m b) NullAfter k l lt c = absurd (omega (arith, k.1, c.1))
  none_lower x y (Joined m a b) NullBefore k l lt c = absurd (omega (arith, k.0, c.0))
  none_lower x y (Joined m a b) NullAfter k l lt c = absurd (omega (arith, k.1, c.1))
  none_lower x y (Joined m a b) (Split d i j) k l lt c =
      let e : d ≡ a = omega (arith, k.0, c.0) in
      new_old x a i c.3 l c.4 (subst (λ z. Together g h c.3 (suc z) (suc i)) e c.5)
  none_lower x y (Size m o) NullBefore k l lt c = absurd (omega (arith, k.2, c.0))
  none_lower x y (Size m o) NullAfter k l lt c = absurd (omega (arith, k.3, c.1))
  none_lower x y (Size m o) (Split d i j) k l lt c = new_old x d i c.3 (l d j c.0 c.1).0 c.4 c.5
  none_lower x y (Size m o) (Joined i d j) k l lt c = new_new j i c.3 (l d j c.0 c.1).1 c.4 c.5
  none_lower x y (Slots m o) NullBefore k l lt c = absurd (omega (arith, k.2, c.0))
  none_lower x y (Slots m o) NullAfter k l lt c = absurd (omega (arith, k.3, c.1))
  none_lower x y (Slots m o) (Split d i j) k l lt c = new_old x d i c.3 (l d j c.0 c.1).0 c.4 c.5
  none_lower x y (Slots m o) (Joined i d j) k l lt c = new_new j i c.3 (l d j c.0 c.1).1 c.4 c.5
  none_lower x y (Slots m o) (Size i j) k l lt c = c.6 (sym c.4 ∙ (l c.0 c.1 c.2 c.3).2 ∙ c.5)
  none_lower x y (Data m) NullBefore k l lt c = absurd (omega (arith, k.2, c.0))
  none_lower x y (Data m) NullAfter k l lt c = absurd (omega (arith, k.3, c.1))
  none_lower x y (Data m) (Split d i j) k l lt c = new_old x d i c.3 (l d j c.0 c.1).0 c.4 c.5
  none_lower x y (Data m) (Joined i d j) k l lt c = new_new j i c.3 (l d j c.0 c.1).1 c.4 c.5
  none_lower x y (Data m) (Size i j) k l lt c =
      let ea : k.0 ≡ c.0 = omega (arith, k.2, c.2) in
      let eb : k.1 ≡ c.1 = omega (arith, k.3, c.3) in
      c.6 (sym c.4 ∙ ap (λ z. word g z / 2 ^ 32) (sym ea) ∙ ap (λ z. z / 2 ^ 32) k.4 ∙ ap (λ z. word h z / 2 ^ 32) eb ∙ c.5)
  none_lower x y (Data m) (Slots i j) k l lt c =
      let ea : k.0 ≡ c.0 = omega (arith, k.2, c.2) in
      let eb : k.1 ≡ c.1 = omega (arith, k.3, c.3) in
      c.6 (sym c.4 ∙ ap (λ z. word g z % 2 ^ 32) (sym ea) ∙ ap (λ z. z % 2 ^ 32) k.4 ∙ ap (λ z. word h z % 2 ^ 32) eb ∙ c.5)
  none_lower x y (Data m) (Data i) k l lt c = c.6 ((l c.0 c.1 c.2 c.3).2 i (omega (arith, lt)))
  none_lower x y how other k l lt c = absurd (omega (arith, lt))

module _ (g h : Heap) (left : IsValid g) (right : IsValid h) (w : Walk) (walk : IsWalk g h w) where
  pub first : (s : Stop) (k : ℕ) (ss : Vec ℕ Global) → length g.roots ≡ length h.roots → LinksTo g h w s.way.from s.way.number → IsStop g h w s → IsRoute w s.way.from s.way.number (k ∷ ss.items)
      → IsFirstDifference g h (At k ss s.how)
  first s k ss count links stop at =
      let p : List ℕ = k ∷ ss.items in
      let here : ClashAt g h p s.how = stopped g h w walk s p stop at in
      let linked : LinksEarlier g h w s.way.from s.way.number = λ k m x y e way. way_linked g h w s.way.number s.way.from k m x y links e way in
      let alike : AlikeEarlier g h w s.way.from s.way.number = λ i lt e. walk.alike i lt in
      record {
        is = here;
        earliest = (
          count,
          none_earlier g h left right w walk s.way.from s.way.number p linked at alike,
          λ other lt c.
              let there : Together g h p stop.0 stop.1 = route_leads g h w walk s.way.from s.way.number p at stop.0 stop.1 stop.2 in
              let clash : IsClash g h p s.how stop.0 stop.1 = seen_clash g h w walk s.way.from s.way.number stop.0 stop.1 p s.how stop.4 at stop.3 in
              let ex : c.0 ≡ stop.0 = leads_to_one g p c.0 stop.0 c.2.0 there.0 in
              let ey : c.1 ≡ stop.1 = leads_to_one h p c.1 stop.1 c.2.1 there.1 in
              let d : IsClash g h p other stop.0 stop.1 = subst (λ z. IsClash g h p other z stop.1) ex (subst (λ z. IsClash g h p other c.0 z) ey c.3) in
              none_lower g h left right w walk s.way.from s.way.number p linked at alike stop.0 stop.1 s.how other clash stop.5 lt d,
        );
      }
