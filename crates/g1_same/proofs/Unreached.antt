-- What paths lead to where a walk linked everything: pairs and nulls, and no stale word.
use Rattle.std.proofs.Common.{◌≡◌, ℕ, zero, suc, ◌+◌, ◌<◌, ◌≤◌, ◌++◌, inl, inr, List, [], ◌∷◌, length, Contains, sym, ap, subst, ◌∙◌, arith, slice_index}
use Rattle.std.proofs.lemmas.List.{length_push}
use Rattle.g1_words.specs.Heap.{Heap, word, object_at}
use Rattle.g1_words.specs.Valid.{IsValid}
use Rattle.g1_same.specs.declared.walk.Walk.{Walk}
use Rattle.g1_same.specs.declared.stale.StaleWords.{StaleWords}
use Rattle.g1_same.specs.declared.walk.What.{What}
use Rattle.g1_same.specs.declared.walk.What.TheVariants as what
use Rattle.g1_same.specs.Path.{LeadsTo, Together}
use Rattle.g1_same.specs.Walk.{IsWay, IsWalk, IsTour, IsEarlier, IsLinked, IsPaired, IsRoute}
use Rattle.g1_same.specs.Behind.{AreByPlace, LinksBetween, PassesNoStale, looked_to}
use Rattle.g1_same.specs.Stale.{LeadsToStale, HasNoneBefore}
use Rattle.g1_same.specs.Laws.{NothingLeft, FirstOfAll}
use Rattle.g1_same.proofs.Following.{leads_to_one}
use Rattle.g1_same.proofs.First.{LinksEarlier, AlikeEarlier, last_of, leads_some, leads_to_last, none_earlier, none_stale}
use Rattle.g1_same.proofs.Order.{renaming}
use Rattle.g1_same.proofs.Between.{never_first, walk_of, all_roots, all_pairs}

paired : (w : Walk) (f n x y : ℕ) → IsLinked w f n x y → IsPaired w.before.items w.after.items x y
paired w f n x y (inl e) = inl e
paired w f n x y (inr l) = inr (l.0, l.1, l.2, l.3)

module _ (g h : Heap) (w : Walk) (links : LinksBetween g h w 0 0 (length w.before.items + 1) 0) where
  -- the way of a slot of a pair
  slot_of : (i m a b x y : ℕ) → i < length w.before.items → suc a ≡ suc (slice_index w.before.items i) → suc b ≡ suc (slice_index w.after.items i)
      → m < (object_at g a).refs → m < (object_at h b).refs → word g (a + 1 + m) ≡ x → word h (b + 1 + m) ≡ y → IsWay g h w.before.items w.after.items (suc i) m x y
  slot_of i m a b x y lt is_a is_b lg lh eg eh =
      let ea : a ≡ slice_index w.before.items i = omega (arith, is_a) in
      let eb : b ≡ slice_index w.after.items i = omega (arith, is_b) in (
        lt,
        subst (λ z. m < (object_at g z).refs) ea lg,
        subst (λ z. m < (object_at h z).refs) eb lh,
        subst (λ z. word g (z + 1 + m) ≡ x) ea eg,
        subst (λ z. word h (z + 1 + m) ≡ y) eb eh,
      )

  -- every path leads to two nulls or to a pair
  all_paired : (t : ℕ) (q : List ℕ) (x y : ℕ) → length q ≤ t → Together g h q x y → IsPaired w.before.items w.after.items x y
  all_paired t [] x y le u = absurd u.0
  all_paired zero (k ∷ ss) x y le u = absurd (omega (arith, le))
  all_paired (suc t) (k ∷ ss) x y le u = elim (last_of k ss) [
    | inl e ↦
        let v : Together g h (k ∷ []) x y = subst (λ z. Together g h (k ∷ z) x y) e u in
        paired w 0 k x y (links 0 k x y (never_first 0 k) (inl (omega arith)) (v.0.0, v.1.0, v.0.1, v.1.1))
    | inr r ↦
        let q : List ℕ = k ∷ r.0 in
        let s : ℕ = r.1 in
        let whole : length (k ∷ ss) ≡ length q + 1 = ap length r.2 ∙ length_push q s in
        let v : Together g h (q ++ s ∷ []) x y = subst (λ z. Together g h z x y) r.2 u in
        let o = leads_to_last g q s x (omega arith) v.0 in
        let d = leads_to_last h q s y (omega arith) v.1 in
        last s x y o.0 d.0 o.2 d.2 o.3 d.3 (all_paired t q (suc o.0) (suc d.0) (omega (arith, le, whole)) (o.1, d.1))
  ]
    where
      last : (s x y a b : ℕ) → s < (object_at g a).refs → s < (object_at h b).refs → word g (a + 1 + s) ≡ x → word h (b + 1 + s) ≡ y
          → IsPaired w.before.items w.after.items (suc a) (suc b) → IsPaired w.before.items w.after.items x y
      last s x y a b lg lh eg eh (inl e) = absurd (omega (arith, e.0))
      last s x y a b lg lh eg eh (inr i) =
          paired w (suc i.0) s x y (links (suc i.0) s x y (never_first (suc i.0) s) (inl (omega (arith, i.1))) (slot_of i.0 s a b x y i.1 i.2 i.3 lg lh eg eh))

  module _ (s : StaleWords) (rising : AreByPlace s) (passes : PassesNoStale g h s w 0 0 (length w.before.items + 1) 0) where
    stale_slot : (q : List ℕ) (a m x z : ℕ) → Together g h (q ++ m ∷ []) x 0 → LeadsTo h q (suc a) → Contains s.slots.now (a + 1 + m, z) → ⊥
    stale_slot q a m x z t leads c =
        let some : 0 < length q = leads_some h q (suc a) leads in
        let o = leads_to_last g q m x some t.0 in
        let d = leads_to_last h q m 0 some t.1 in
        let same : suc d.0 ≡ suc a = leads_to_one h q (suc d.0) (suc a) d.1 leads in
        go o.0 d.0 o.2 d.2 o.3 d.3 (omega (arith, same)) (all_paired (length q) q (suc o.0) (suc d.0) (omega arith) (o.1, d.1))
      where
        go : (u v : ℕ) → m < (object_at g u).refs → m < (object_at h v).refs → word g (u + 1 + m) ≡ x → word h (v + 1 + m) ≡ 0 → v ≡ a
            → IsPaired w.before.items w.after.items (suc u) (suc v) → ⊥
        go u v lg lh eg eh same (inl e) = absurd (omega (arith, e.0))
        go u v lg lh eg eh same (inr i) =
            let ev : v ≡ slice_index w.after.items i.0 = omega (arith, i.3) in
            passes rising (suc i.0) m x z (never_first (suc i.0) m) (inl (omega (arith, i.1))) (slot_of i.0 m u v x 0 i.1 i.2 i.3 lg lh eg eh)
            (subst (λ y. Contains s.slots.now (y + 1 + m, z)) (sym same ∙ ev) c)

    -- no path leads to a stale word
    pub no_stale_path : (p : List ℕ) (x z : ℕ) → LeadsToStale g h s.roots.now s.slots.now p x z → ⊥
    no_stale_path p x z (t, inl e) =
        let u : Together g h (e.0 ∷ []) x 0 = subst (λ r. Together g h r x 0) e.1 t in
        passes rising 0 e.0 x z (never_first 0 e.0) (inl (omega arith)) (u.0.0, u.1.0, u.0.1, u.1.1) e.2
    no_stale_path p x z (t, inr e) = stale_slot e.0 e.1 e.2 x z (subst (λ r. Together g h r x 0) e.3 t) e.4 e.5

pub nothing_left : NothingLeft
nothing_left g h s v w left right count rising none tour alike links passes =
    let empty : length v.before.items ≡ 0 = ap length none in
    let walk : IsWalk g h w = walk_of g h w tour (λ i lt. alike i (omega (arith, empty)) lt) in
    ((renaming g h left right w walk count (all_roots g h w tour count links) (all_pairs g h w tour count links)).same, no_stale_path g h w links s rising passes)

-- ---- before a difference

looked_before : (i m f n : ℕ) (d : What) → IsEarlier i m f n → IsEarlier i m f (looked_to d n)
looked_before i m f n (what.Stale z) e = e
looked_before i m f n (what.How how) (inl e) = inl e
looked_before i m f n (what.How how) (inr e) = inr (e.0, omega (arith, e.1))

module _ (g h : Heap) (left : IsValid g) (right : IsValid h) (s : StaleWords) (w : Walk) (tour : IsTour g h w) (f n : ℕ) (d : What) (p : List ℕ) (rising : AreByPlace s)
    (alike : AlikeEarlier g h w f n) (links : LinksBetween g h w 0 0 f n) (passes : PassesNoStale g h s w 0 0 f (looked_to d n)) (at : IsRoute w f n p) where
  linked : LinksEarlier g h w f n
  linked k m x y e way = links k m x y (never_first k m) e way

  pub none_before : HasNoneBefore g h s.roots.now s.slots.now p
  none_before = record {
    no_difference = none_earlier g h left right w tour f n p linked at alike;
    no_stale = none_stale g h left right w tour f n p linked at alike s.roots.now s.slots.now
        (λ k x z e way c. passes rising 0 k x z (never_first 0 k) (looked_before 0 k f n d e) way c)
        (λ i m x z e way c. passes rising (suc i) m x z (never_first (suc i) m) (looked_before (suc i) m f n d e) way c);
  }

pub first_of_all : FirstOfAll
first_of_all g h s v w d p left right count rising none tour alike next stale at =
    let empty : length v.before.items ≡ 0 = ap length none in
    none_before g h left right s w tour d.place.way.from d.place.way.number d.what p rising (λ i lt e. alike i (omega (arith, empty)) lt e) next.1 stale at
