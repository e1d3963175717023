-- The path of a way ends at a stale word where one is at the way.
use Rattle.std.proofs.Common.{◌≡◌, ℕ, suc, ◌+◌, ◌++◌, ◌⊎◌, inl, inr, List, [], ◌∷◌, length, Contains, refl, sym, ap, subst, arith, slice_index}
use Rattle.std.proofs.lemmas.List.{length_push}
use Rattle.g1_words.specs.Heap.{Heap}
use Rattle.g1_same.specs.declared.walk.Walk.{Walk}
use Rattle.g1_same.specs.declared.stale.StaleWords.{StaleWords}
use Rattle.g1_same.specs.Path.{LeadsTo, Together, Before}
use Rattle.g1_same.specs.Walk.{IsWay, IsTour, IsRoute, root, slot}
use Rattle.g1_same.specs.Behind.{IsStaleAt, AreByPlace, PassesNoStale}
use Rattle.g1_same.specs.Stale.{EndsStale, LeadsToStale, HasNoneBefore}
use Rattle.g1_same.proofs.Following.{leads_to_one}
use Rattle.g1_same.proofs.First.{leads_some}
use Rattle.g1_same.proofs.Routes.{route_leads, route_some}
use Rattle.g1_same.proofs.Between.{never_first}

snoc_same : (p q : List ℕ) (m n : ℕ) → p ++ m ∷ [] ≡ q ++ n ∷ [] → (p ≡ q) × (m ≡ n)
snoc_same [] [] m n e = (refl, (let same : m ≡ n = cc in same))
snoc_same [] (y ∷ q) m n e = absurd (omega (arith, ap length e, length_push q n))
snoc_same (x ∷ p) [] m n e = absurd (omega (arith, ap length e, length_push p m))
snoc_same (x ∷ p) (y ∷ q) m n e =
    let heads : x ≡ y = cc in
    let tails : p ++ m ∷ [] ≡ q ++ n ∷ [] = cc in
    let r = snoc_same p q m n tails in
    ((λ t. heads t ∷ r.0 t), r.1)

module _ (g h : Heap) (s : StaleWords) (w : Walk) (tour : IsTour g h w) where
  pub ends_stale : (f n z : ℕ) (p : List ℕ) → IsRoute w f n p → IsStaleAt s w f n z → EndsStale h s.roots.now s.slots.now p z
  ends_stale f n z p (root m) c = inl (m, refl, c)
  ends_stale f n z p (slot j m q lt r) c =
      let t = route_leads g h w tour (slice_index w.from.items j) (slice_index w.number.items j) q r (suc (slice_index w.before.items j)) (suc (slice_index w.after.items j)) (tour.ways j lt) in
      inr (q, slice_index w.after.items j, m, refl, t.1, c)

  pub stale_here : (f n z : ℕ) (p : List ℕ) → IsRoute w f n p → EndsStale h s.roots.now s.slots.now p z → IsStaleAt s w f n z
  stale_here f n z p (root m) (inl (k, e, c)) = let same : m ≡ k = (snoc_same [] [] m k e).1 in subst (λ i. Contains s.roots.now (i, z)) (sym same) c
  stale_here f n z p (root m) (inr (q, a, i, e, leads, c)) = absurd (let some = leads_some h q (suc a) leads in omega (arith, ap length e, length_push q i, some))
  stale_here f n z p (slot j m q lt r) (inl (k, e, c)) = absurd (let some = route_some w _ _ q r in omega (arith, ap length e, length_push q m, some))
  stale_here f n z p (slot j m q lt r) (inr (t, a, i, e, leads, c)) =
      let same = snoc_same q t m i e in
      let u = route_leads g h w tour (slice_index w.from.items j) (slice_index w.number.items j) q r (suc (slice_index w.before.items j)) (suc (slice_index w.after.items j)) (tour.ways j lt) in
      let one : suc (slice_index w.after.items j) ≡ suc a = leads_to_one h t (suc (slice_index w.after.items j)) (suc a) (subst (λ l. LeadsTo h l (suc (slice_index w.after.items j))) same.0 u.1) leads in
      let at : a ≡ slice_index w.after.items j = omega (arith, one) in
      subst (λ b. Contains s.slots.now (b + 1 + m, z)) at (subst (λ k. Contains s.slots.now (a + 1 + k, z)) (sym same.1) c)

  -- a stale word at a way is where its path leads
  pub leads_stale : (f n x y z : ℕ) (p : List ℕ) → IsRoute w f n p → IsWay g h w.before.items w.after.items f n x y → y ≡ 0 → IsStaleAt s w f n z → LeadsToStale g h s.roots.now s.slots.now p x z
  leads_stale f n x y z p at way null c = (
    subst (λ v. Together g h p x v) null (route_leads g h w tour f n p at x y way),
    ends_stale f n z p at c,
  )

  -- where none is at a way its path leads to none
  pub no_stale_here : (f n x y u z : ℕ) (p : List ℕ) → AreByPlace s → PassesNoStale g h s w 0 0 f (n + 1) → IsRoute w f n p → IsWay g h w.before.items w.after.items f n x y
      → LeadsToStale g h s.roots.now s.slots.now p u z → ⊥
  no_stale_here f n x y u z p rising passes at way (t, ends) =
      let null : y ≡ 0 = leads_to_one h p y 0 (route_leads g h w tour f n p at x y way).1 t.1 in
      passes rising f n x z (never_first f n) (inr (refl, omega arith)) (subst (λ v. IsWay g h w.before.items w.after.items f n x v) null way) (stale_here f n z p at ends)

  pub no_stale_until : (f n x y : ℕ) (p : List ℕ) → AreByPlace s → PassesNoStale g h s w 0 0 f (n + 1) → IsRoute w f n p → IsWay g h w.before.items w.after.items f n x y
      → HasNoneBefore g h s.roots.now s.slots.now p → (q : List ℕ) (u z : ℕ) → (q ≡ p) ⊎ Before q p → LeadsToStale g h s.roots.now s.slots.now q u z → ⊥
  no_stale_until f n x y p rising passes at way none q u z (inl e) leads =
      no_stale_here f n x y u z p rising passes at way (subst (λ l. LeadsToStale g h s.roots.now s.slots.now l u z) e leads)
  no_stale_until f n x y p rising passes at way none q u z (inr b) leads = none.no_stale q u z b leads
