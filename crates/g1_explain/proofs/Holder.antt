-- The object that holds a slot, from the one over the first word of its card.
use Rattle.std.proofs.Common.{◌≡◌, ◌≢◌, ℕ, ◌+◌, ◌*◌, ◌/◌, ◌<◌, ◌≤◌, List, [], ◌∷◌, ◌++◌, length, filter, flat_map, Contains, refl, sym, ◌∙◌, ap, subst, arith, eqb, eq-eqb}
use Rattle.std.specs.Prelude.{Option, Some, None}
use Rattle.g1_words.specs.declared.object.Object.{Object}
use Rattle.g1_words.specs.declared.region.Kind.{Kind}
use Rattle.g1_words.specs.declared.region.Kind.TheVariants.{Free, Ordinary, HumongousFirst, Continuation}
use Rattle.g1_words.specs.Heap.{Heap, kind, start, end, card_of, objects, object_at, slots}
use Rattle.g1_words.specs.Valid.{IsObject, Tiles, IsValid, IsSlotOf}
use Rattle.g1_words.specs.Walk.{Reaches, StandsBetween}
use Rattle.g1_words.proofs.Bounds.{cards_in_region, card_below}
use Rattle.g1_words.proofs.Computed.{object_is, has_contains, contains_has}
use Rattle.g1_words.proofs.Members.{Contains-filter, filter_member, flat_map_cases, none_contains}
use Rattle.g1_words.proofs.Objects.{StandsIn, object_stands, ordinary_has}
use Rattle.g1_words.proofs.Sound.{has_is, object_in, stands_object}
use Rattle.g1_words.proofs.Tiling.{Tiles-le, Tiles-append, Tiles-stands}
use Rattle.g1_rem.specs.Slots.{all_slots, slots_on, is_between}
use Rattle.g1_rem.specs.Starts.{IsOver, IsStartsOf}
use Rattle.g1_rem.proofs.Card.{none_on, ordinary_on, alone_on}
use Rattle.g1_rem.proofs.Entering.{slot_good}
use Rattle.g1_rem.proofs.Order.{slot_in, object_fits}
use Rattle.g1_frontier.proofs.Marks.{one_member}
use Rattle.g1_explain.specs.Keeping.{IsReferring, ReachesHolder}
use Rattle.g1_explain.proofs.Kept.{slot_there}

module _ (h : Heap) (valid : IsValid h) (slot at : ℕ) (object : Object) (is : object ≡ object_at h at) where
  -- the object that holds the slot stands here, if no other one is before it
  same : (r : ReachesHolder h at slot) → at ≡ r.holder.at → object ≡ r.holder
  same r e = is ∙ ap (object_at h) e ∙ sym (has_is h r.holder valid (contains_has h r.holder valid.shaped r.there))

  holder_fits : (r : ReachesHolder h at slot) → slot < r.holder.at + r.holder.size
  holder_fits r =
      let o : Object = r.holder in
      let e : o ≡ object_at h o.at = has_is h o valid (contains_has h o valid.shaped r.there) in
      let fit = (object_in h o.at valid (subst (Contains (objects h)) e r.there)).0 in
      let refs : o.refs ≡ (object_at h o.at).refs = ap (λ (x : Object). x.refs) e in
      let size : o.size ≡ (object_at h o.at).size = ap (λ (x : Object). x.size) e in
      omega (arith, r.holds.1, fit, refs, size)

  -- the first one of the row
  first_is : (x : Object) → x.at ≡ at → IsObject h.words x → x ≡ object
  first_is x e i = object_is h x i ∙ ap (object_at h) e ∙ sym is

  -- one object further
  pub step : ReachesHolder h at slot → at + object.size ≤ slot → ReachesHolder h (at + object.size) slot × (0 < object.size)
  step r le = by r.row.0 r.row.1
    where
      by : (os : List Object) → Tiles h.words at os r.holder.at → ReachesHolder h (at + object.size) slot × (0 < object.size)
      by [] t =
          let fit = holder_fits r in
          let e : object.size ≡ r.holder.size = ap (λ (x : Object). x.size) (same r t) in
          absurd (omega (arith, fit, e, le, t))
      by (x ∷ xs) t =
          let size : x.size ≡ object.size = ap (λ (y : Object). y.size) (first_is x t.0 t.1) in (
            record { holder = r.holder; there = r.there; holds = r.holds; row = (xs, subst (λ n. Tiles h.words (at + n) xs r.holder.at) size t.2) },
            omega (arith, t.1.refs_fit, size),
          )

  -- the object that ends behind the slot holds it
  pub stop : ReachesHolder h at slot → slot < at + object.size → Contains (objects h) object × IsSlotOf object slot
  stop r lt = by r.row.0 r.row.1
    where
      by : (os : List Object) → Tiles h.words at os r.holder.at → Contains (objects h) object × IsSlotOf object slot
      by [] t = subst (λ x. Contains (objects h) x × IsSlotOf x slot) (sym (same r t)) (r.there, r.holds)
      by (x ∷ xs) t =
          let size : x.size ≡ object.size = ap (λ (y : Object). y.size) (first_is x t.0 t.1) in
          let le = Tiles-le h.words (at + x.size) xs r.holder.at t.2 in
          absurd (omega (arith, le, size, lt, r.holds.0))

  -- it stands within the heap
  pub fits : ReachesHolder h at slot → at + object.size ≤ length h.words
  fits r = by r.row.0 r.row.1
    where
      holder_ends : r.holder.at + r.holder.size ≤ length h.words
      holder_ends = let f = object_fits h valid r.holder r.there in omega (arith, f, valid.word_count)

      by : (os : List Object) → Tiles h.words at os r.holder.at → at + object.size ≤ length h.words
      by [] t = let e : object.size ≡ r.holder.size = ap (λ (x : Object). x.size) (same r t) in omega (arith, holder_ends, e, t)
      by (x ∷ xs) t =
          let size : x.size ≡ object.size = ap (λ (y : Object). y.size) (first_is x t.0 t.1) in
          let le = Tiles-le h.words (at + x.size) xs r.holder.at t.2 in
          omega (arith, le, size, holder_ends)

-- ---- the object over the first word of a card

module _ (h : Heap) (valid : IsValid h) (c slot : ℕ) (refers : IsReferring h slot) (home : c ≡ card_of h slot) where
  abbrev lo : ℕ
  lo = c * h.geometry.k

  on : Contains (slots_on h c) slot
  on = Contains-filter (λ p. eqb (card_of h p) c) (all_slots h) slot (slot_there h (record { slot = slot; target = refers.0 }) refers.1).0 (eq-eqb (card_of h slot) c (sym home))

  no_slot : [] ≡ slots_on h c → ⊥
  no_slot e = none_contains slot (subst (λ l. Contains l slot) (sym e) on)

  -- the card is one of the heap
  pub card_there : (starts : List (Option ℕ)) → IsStartsOf h starts → c < length starts
  card_there starts are =
      let m = cards_in_region h.geometry.w h.geometry.k h.geometry.n valid.limits in
      let good = slot_good h c slot valid on in
      let b = card_below h.geometry.w h.geometry.k m.0 h.geometry.n slot (omega (arith, valid.limits.k_least)) m.1 (omega (arith, good.0, valid.word_count)) in
      omega (arith, b, home, are.one_each)

  -- an object is over its first word
  pub some_over : IsOver h lo None → ⊥
  some_over none = no_slot (none_on h valid c lo (lo + h.geometry.k) refl refl none)

  module _ (a : ℕ) (over : IsOver h lo (Some a)) where
    abbrev r : ℕ
    r = a / h.geometry.w

    stands : (r < h.geometry.n) × StandsIn (kind h (a / h.geometry.w)) h (a / h.geometry.w) (object_at h a)
    stands = object_stands h (object_at h a) (a / h.geometry.w) valid (contains_has h (object_at h a) valid.shaped over.0) refl

    -- the holder is one of a row of objects of the heap
    held : (os : List Object) (to : ℕ) → Tiles h.words a os to → ((o : Object) → Contains os o → Contains (objects h) o)
        → filter (is_between lo (lo + h.geometry.k)) (flat_map slots os) ≡ slots_on h c → ReachesHolder h a slot
    held os to t ours all =
        let i = (filter_member (is_between lo (lo + h.geometry.k)) (flat_map slots os) slot (subst (λ l. Contains l slot) (sym all) on)).0 in
        let o = flat_map_cases slots os slot i in
        record { holder = o.0; there = ours o.0 o.1; holds = slot_in o.0 slot o.2; row = (Tiles-stands h.words a os to o.0 t o.1).before }

    in_ordinary : kind h (a / h.geometry.w) ≡ Ordinary → ReachesHolder h a slot
    in_ordinary e =
        let q = ordinary_on h valid c lo (lo + h.geometry.k) refl refl a over (a / h.geometry.w) refl e in
        let t : StandsIn Ordinary h (a / h.geometry.w) (object_at h a) = subst (λ k. StandsIn k h (a / h.geometry.w) (object_at h a)) e stands.1 in
        let os : List Object = q.0.0 in
        held os (end h (a / h.geometry.w)) q.0.1
        (λ o i. has_contains h o (ordinary_has h (a / h.geometry.w) o stands.0 e (further o (Tiles-stands h.words a os (end h (a / h.geometry.w)) o q.0.1 i) t.before)))
        (q.1 os q.0.1)
      where
        further : (o : Object) → StandsBetween h.words a (end h (a / h.geometry.w)) o → Reaches h.words (start h (a / h.geometry.w)) a → StandsBetween h.words (start h (a / h.geometry.w)) (end h (a / h.geometry.w)) o
        further o s (pre, t) = record {
          before = (pre ++ s.before.0, Tiles-append h.words (start h (a / h.geometry.w)) pre a s.before.0 o.at t s.before.1);
          object = s.object;
          after = s.after;
        }

    alone : kind h (a / h.geometry.w) ≢ Ordinary → ReachesHolder h a slot
    alone not =
        let q = alone_on h valid c lo (lo + h.geometry.k) refl refl a over not in
        let it : IsObject h.words (object_at h a) = stands_object (kind h (a / h.geometry.w)) h (a / h.geometry.w) (object_at h a) stands.1 in
        let row : Tiles h.words a (object_at h a ∷ []) (a + (object_at h a).size) = (refl, it, refl) in
        held (object_at h a ∷ []) (a + (object_at h a).size) row
        (λ o i. subst (Contains (objects h)) (one_member (object_at h a) o i) over.0) (q.1 (object_at h a ∷ []) row)

    -- the row from that object reaches the holder
    pub reaches : ReachesHolder h a slot
    reaches = by (kind h (a / h.geometry.w)) refl
      where
        by : (k : Kind) → kind h (a / h.geometry.w) ≡ k → ReachesHolder h a slot
        by Ordinary e = in_ordinary e
        by Free e = alone (λ same. cc)
        by HumongousFirst e = alone (λ same. cc)
        by Continuation e = alone (λ same. cc)
