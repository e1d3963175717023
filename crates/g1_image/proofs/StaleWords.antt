-- Stale words: lists of them, and the heap with null in each.
use Rattle.std.proofs.Common.{◌≡◌, ◌≤◌, ◌<◌, ℕ, zero, suc, ◌+◌, ◌^◌, ◌⊎◌, inl, inr, List, [], ◌∷◌, ◌++◌, length, take, set, get_or, slice_index, arith, refl, sym, ap, subst, ◌∙◌, Contains}
use Rattle.std.proofs.Common.{get_or-set_other, get_or-set_same, length-set}
use Rattle.std.specs.Prelude.{All, slice_index_or}
use Rattle.std.proofs.lemmas.Bool.{cases_lt, cases_eq}
use Rattle.std.proofs.lemmas.List.{get_or_default, get_or_past}
use Rattle.std.proofs.lemmas.List.Elements.{Contains-append_cases, Contains-append_left, Contains-append_right}
use Rattle.g1_words.specs.Heap.{Heap, region, start, end}
use Rattle.g1_words.specs.Valid.{IsObject, Tiles, IsFirst, HoldsBy, HasObject, IsReference, IsSlotOf, IsShapedBy, MayBePinned, IsValid}
use Rattle.g1_words.specs.declared.object.Object.{Object}
use Rattle.g1_words.specs.declared.region.Kind.{Kind}
use Rattle.g1_words.specs.declared.region.Kind.TheVariants.{Free, Ordinary, HumongousFirst, Continuation}
use Rattle.g1_words.proofs.Ordered.{Ordered, Ordered-from_pairs, pairs_from_ordered}
use Rattle.g1_words.proofs.Rising.{Ordered-append}
use Rattle.g1_words.proofs.Computed.{holds_are}
use Rattle.g1_words.proofs.Objects.{first_has}
use Rattle.g1_image.specs.Draft.{IsDraft, ShapedBelow}
use Rattle.g1_image.specs.Stale.{IsStaleRoot, IsStaleSlot, IsPut, HasLowerPlace, Lists, nulled, without}
use Rattle.g1_image.proofs.DecidedReferences.{decided_reference}
use Rattle.g1_image.proofs.Rows.{apart, has_header}
use Rattle.g1_image.proofs.Slots.{ends_within}
use Rattle.g1_words.proofs.Members.{Contains-later}
use Rattle.g1_words.proofs.Members.{none_contains}

-- ---- lists of places with their words

-- as `Lists`, by cases on the list
pub record Gathers (P : ℕ → ℕ → Type 0) (found : List (ℕ × ℕ)) : Type 0 where
  pub sound : (k x : ℕ) → Contains found (k, x) → P k x
  pub whole : (k x : ℕ) → P k x → Contains found (k, x)
  pub rising : Ordered HasLowerPlace found

pub gathers_none : (P : ℕ → ℕ → Type 0) → ((k x : ℕ) → P k x → ⊥) → Gathers P []
gathers_none P none = record { sound = λ k x m. absurd (none_contains (k, x) m); whole = λ k x p. absurd (none k x p); rising = tt }

pub gathers_same : (P Q : ℕ → ℕ → Type 0) (found : List (ℕ × ℕ)) → Gathers P found → ((k x : ℕ) → P k x → Q k x) → ((k x : ℕ) → Q k x → P k x) → Gathers Q found
gathers_same P Q found g to from = record { sound = λ k x m. to k x (g.sound k x m); whole = λ k x q. g.whole k x (from k x q); rising = g.rising }

module _ (P Q : ℕ → ℕ → Type 0) (found : List (ℕ × ℕ)) (a b : ℕ) (g : Gathers P found) (below : (k x : ℕ) → P k x → k < a) (to : (k x : ℕ) → P k x → Q k x) (here : Q a b)
    (from : (k x : ℕ) → Q k x → P k x ⊎ ((k ≡ a) × (x ≡ b))) where
  sound_by : (k x : ℕ) → Contains found (k, x) ⊎ Contains {X = ℕ × ℕ} ((a, b) ∷ []) (k, x) → Q k x
  sound_by k x (inl m) = to k x (g.sound k x m)
  sound_by k x (inr (zero, l, e)) = subst (λ (e : ℕ × ℕ). Q e.0 e.1) e here
  sound_by k x (inr (suc j, l, e)) = absurd (omega (arith, l))

  whole_by : (k x : ℕ) → P k x ⊎ ((k ≡ a) × (x ≡ b)) → Contains (found ++ (a, b) ∷ []) (k, x)
  whole_by k x (inl p) = Contains-append_left found ((a, b) ∷ []) (k, x) (g.whole k x p)
  whole_by k x (inr e) =
      let pair : ℕ → ℕ → ℕ × ℕ = λ u v. (u, v) in
      let same : pair a b ≡ pair k x = λ t. pair (sym e.0 t) (sym e.1 t) in
      Contains-append_right found ((a, b) ∷ []) (k, x) (zero, omega arith, same)

  order : (u v : ℕ × ℕ) → Contains found u → Contains {X = ℕ × ℕ} ((a, b) ∷ []) v → HasLowerPlace u v
  order u v m (zero, l, e) = subst (λ (y : ℕ × ℕ). u.0 < y.0) e (below u.0 u.1 (g.sound u.0 u.1 m))
  order u v m (suc k, l, e) = absurd (omega (arith, l))

  -- one place more, behind the others
  pub gathers_more : Gathers Q (found ++ (a, b) ∷ [])
  gathers_more = record {
    sound = λ k x m. sound_by k x (Contains-append_cases found ((a, b) ∷ []) (k, x) m);
    whole = λ k x q. whole_by k x (from k x q);
    rising = Ordered-append HasLowerPlace found ((a, b) ∷ []) g.rising ((λ y k. absurd (none_contains y k)), tt) order;
  }

pub lists_of : (P : ℕ → ℕ → Type 0) (found : List (ℕ × ℕ)) → Gathers P found → Lists P found
lists_of P found g = record {
  sound = λ k d lt. let e : ℕ × ℕ = get_or found k d in g.sound e.0 e.1 (k, lt, get_or_default found k e d lt);
  whole = λ k x p. (g.whole k x p);
  rising = pairs_from_ordered HasLowerPlace found g.rising;
}

pub gathers_of : (P : ℕ → ℕ → Type 0) (found : List (ℕ × ℕ)) → Lists P found → Gathers P found
gathers_of P found l = record {
  sound = λ k x m. let c = m in subst (λ (e : ℕ × ℕ). P e.0 e.1) c.2 (l.sound c.0 (k, x) c.1);
  whole = λ k x p. (l.whole k x p);
  rising = Ordered-from_pairs HasLowerPlace found l.rising;
}

-- the stale roots below a number
abbrev pub RootsBelow : Heap → ℕ → ℕ → ℕ → Type 0
RootsBelow h i k x = (k < i) × IsStaleRoot h k x

module _ (h : Heap) (i x : ℕ) (found new : List (ℕ × ℕ)) (below : Gathers (RootsBelow h i) found) (lt : i < length h.roots) (root : slice_index h.roots i ≡ x) where
  roots_good : IsReference h x → Gathers (RootsBelow h (i + 1)) found
  roots_good good = gathers_same (RootsBelow h i) (RootsBelow h (i + 1)) found below (λ k y p. (omega (arith, p.0), p.1)) (λ k y q. elim (cases_lt k i) [
    | inl less ↦ (less, q.1)
    | inr ge ↦
        let e : k ≡ i = omega (arith, ge, q.0) in
        absurd (q.1.2 (subst (IsReference h) (sym root ∙ ap (slice_index h.roots) (sym e) ∙ q.1.1) good))
  ])

  roots_stale : (IsReference h x → ⊥) → Gathers (RootsBelow h (i + 1)) (found ++ (i, x) ∷ [])
  roots_stale bad = gathers_more (RootsBelow h i) (RootsBelow h (i + 1)) found i x below (λ k y p. p.0) (λ k y p. (omega (arith, p.0), p.1)) (omega arith, (lt, root, bad))
      (λ k y q. elim (cases_lt k i) [
        | inl less ↦ inl (less, q.1)
        | inr ge ↦
            let e : k ≡ i = omega (arith, ge, q.0) in
            inr (e, sym q.1.1 ∙ ap (slice_index h.roots) e ∙ root)
      ])

  -- one root more
  pub roots_more : IsPut h i x found new → Gathers (RootsBelow h (i + 1)) new
  roots_more (inl p) = subst (Gathers (RootsBelow h (i + 1))) (sym p.1) (roots_good p.0)
  roots_more (inr p) = subst (Gathers (RootsBelow h (i + 1))) (sym p.1) (roots_stale p.0)

pub roots_none : (h : Heap) → Gathers (RootsBelow h 0) []
roots_none h = gathers_none (RootsBelow h 0) (λ k x p. omega (arith, p.0))

-- all roots were looked at
pub roots_all : (h : Heap) (i : ℕ) (found : List (ℕ × ℕ)) → Gathers (RootsBelow h i) found → length h.roots ≤ i → Lists (IsStaleRoot h) found
roots_all h i found below ge =
    lists_of (IsStaleRoot h) found (gathers_same (RootsBelow h i) (IsStaleRoot h) found below (λ k x p. p.1) (λ k x q. (omega (arith, q.0, ge), q)))

-- ---- words with null at some places

pub length-nulled : (found : List (ℕ × ℕ)) (words : List ℕ) → length (nulled found words) ≡ length words
length-nulled [] words = refl
length-nulled (e ∷ found) words = length-nulled found (set words e.0 0) ∙ length-set words e.0 0

pub nulled_more : (found : List (ℕ × ℕ)) (words : List ℕ) (i : ℕ) (d : ℕ × ℕ) → i < length found
    → nulled (take (i + 1) found) words ≡ set (nulled (take i found) words) (slice_index_or found i d).0 0
nulled_more [] words i d lt = absurd (omega (arith, lt))
nulled_more (e ∷ found) words zero d lt = refl
nulled_more (e ∷ found) words (suc i) d lt =
    ap (λ k. nulled (take k (e ∷ found)) words) (let s : suc i + 1 ≡ suc (i + 1) = omega arith in s) ∙ nulled_more found (set words e.0 0) i d (omega (arith, lt))

-- a word is as it was, or its place is one of the list
nulled_cases : (found : List (ℕ × ℕ)) (words : List ℕ) (k : ℕ) → ((x : ℕ) × Contains found (k, x)) ⊎ (slice_index (nulled found words) k ≡ slice_index words k)
nulled_cases [] words k = inr refl
nulled_cases (e ∷ found) words k = elim (nulled_cases found (set words e.0 0) k) [
  | inl m ↦ inl (m.0, Contains-later e found (k, m.0) m.1)
  | inr same ↦ elim (cases_eq k e.0) [
    | inl here ↦
        let pair : ℕ → ℕ → ℕ × ℕ = λ u v. (u, v) in
        let found_here : pair e.0 e.1 ≡ pair k e.1 = λ t. pair (sym here t) e.1 in
        inl (e.1, (zero, omega arith, found_here))
    | inr ne ↦ inr (same ∙ get_or-set_other words e.0 k 0 0 ne)
  ]
]

zero_set : (words : List ℕ) (a k : ℕ) → slice_index words k ≡ 0 → slice_index (set words a 0) k ≡ 0
zero_set words a k z = elim (cases_eq k a) [
  | inl here ↦ elim (cases_lt a (length words)) [
    | inl lt ↦ subst (λ i. slice_index (set words a 0) i ≡ 0) (sym here) (get_or-set_same words a 0 0 lt)
    | inr ge ↦ get_or_past (set words a 0) k 0 (omega (arith, ge, here, length-set words a 0))
  ]
  | inr ne ↦ get_or-set_other words a k 0 0 ne ∙ z
]

zero_stays : (found : List (ℕ × ℕ)) (words : List ℕ) (k : ℕ) → slice_index words k ≡ 0 → slice_index (nulled found words) k ≡ 0
zero_stays [] words k z = z
zero_stays (e ∷ found) words k z = zero_stays found (set words e.0 0) k (zero_set words e.0 k z)

zero_listed : (found : List (ℕ × ℕ)) (words : List ℕ) (k x : ℕ) → Contains found (k, x) → k < length words → slice_index (nulled found words) k ≡ 0
zero_listed [] words k x m lt = absurd (omega (arith, m.1))
zero_listed (e ∷ found) words k x (zero, b, here) lt =
    let at : e.0 ≡ k = ap (λ (p : ℕ × ℕ). p.0) here in
    zero_stays found (set words e.0 0) k (subst (λ i. slice_index (set words e.0 0) i ≡ 0) at (get_or-set_same words e.0 0 0 (omega (arith, at, lt))))
zero_listed (e ∷ found) words k x (suc j, b, eq) lt = zero_listed found (set words e.0 0) k x (j, omega (arith, b), eq) (omega (arith, lt, length-set words e.0 0))

small_stays : (found : List (ℕ × ℕ)) (words : List ℕ) → All (λ x. x < 2 ^ 64) words → All (λ x. x < 2 ^ 64) (nulled found words)
small_stays found words small k d lt =
    let within : k < length words = omega (arith, lt, length-nulled found words) in
    subst (λ x. x < 2 ^ 64) (get_or_default (nulled found words) k 0 d lt) (elim (nulled_cases found words k) [
      | inl m ↦ (let z = zero_listed found words k m.0 m.1 within in omega (arith, z))
      | inr same ↦ subst (λ x. x < 2 ^ 64) (sym same) (small k 0 within)
    ])

-- ---- the heap with null in its stale words

module _ (h : Heap) (roots slots : List (ℕ × ℕ)) (draft : IsDraft h) (shaped : ShapedBelow h h.geometry.n)
    (stale_roots : Gathers (IsStaleRoot h) roots) (stale_slots : Gathers (IsStaleSlot h) slots) where
  some : 0 < h.geometry.w
  some = omega (arith, draft.limits.w_least)

  -- no object starts at a slot
  no_header : (o q : Object) → HasObject h o → HasObject h q → IsSlotOf q o.at → ⊥
  no_header o q has there slot = omega (arith, apart h q o some shaped there has slot.0, (has_header h q there).refs_fit, slot.1)

  header_kept : (o : Object) → HasObject h o → slice_index (nulled slots h.words) o.at ≡ slice_index h.words o.at
  header_kept o has = elim (nulled_cases slots h.words o.at) [
    | inl m ↦ let s = stale_slots.sound o.at m.0 m.1 in absurd (no_header o s.0.0 has s.0.1 s.0.2)
    | inr same ↦ same
  ]

  object_kept : (o : Object) → HasObject h o → IsObject h.words o → IsObject (nulled slots h.words) o
  object_kept o has is = record { header = header_kept o has ∙ is.header; refs_fit = is.refs_fit; size_fits = is.size_fits }

  tiles_kept : (from : ℕ) (os : List Object) (to : ℕ) → ((o : Object) → Contains os o → HasObject h o) → Tiles h.words from os to → Tiles (nulled slots h.words) from os to
  tiles_kept from [] to has t = t
  tiles_kept from (o ∷ os) to has t = (t.0, object_kept o (has o (zero, omega arith, refl)) t.1, tiles_kept (from + o.size) os to (λ q m. has q (suc m.0, omega (arith, m.1), m.2)) t.2)

  first_kept : (r : ℕ) (o : Object) → r < h.geometry.n → IsFirst h r o → IsFirst (without h roots slots) r o
  first_kept r o lt first = record { kind = first.kind; at = first.at; object = object_kept o (first_has h r o lt first) first.object }

  holds_kept : (k : Kind) (r : ℕ) (os : List Object) → r < h.geometry.n → (region h r).kind ≡ k → HoldsBy k h r os → HoldsBy k (without h roots slots) r os
  holds_kept Free r os lt e t = t
  holds_kept Ordinary r os lt e t = tiles_kept (start h r) os (end h r) (λ o m. record {
    place = r;
    others = os;
    in_heap = lt;
    holds = subst (λ k. HoldsBy k h r os) (sym e) t;
    one_of = m;
  }) t
  holds_kept HumongousFirst r os lt e (o, first, one) = (o, first_kept r o lt first, one)
  holds_kept Continuation r os lt e t = t

  shaped_kept : (k : Kind) (r : ℕ) → r < h.geometry.n → (region h r).kind ≡ k → IsShapedBy k h r → IsShapedBy k (without h roots slots) r
  shaped_kept Free r lt e s = s
  shaped_kept Ordinary r lt e s = (s.0, s.1, s.2, holds_kept (region h r).kind r s.2 lt refl s.3, s.4)
  shaped_kept HumongousFirst r lt e s = (s.0, first_kept r s.0 lt s.1, s.2, s.3, s.4)
  shaped_kept Continuation r lt e s = (s.0, s.1, first_kept s.0 s.1 (omega (arith, lt, s.3)) s.2, s.3, s.4, s.5)

  has_kept : (o : Object) → HasObject h o → HasObject (without h roots slots) o
  has_kept o has = record {
    place = has.place;
    others = has.others;
    in_heap = has.in_heap;
    holds = holds_kept (region h has.place).kind has.place has.others has.in_heap refl has.holds;
    one_of = has.one_of;
  }

  held : (k : Kind) (r : ℕ) → (region h r).kind ≡ k → IsShapedBy k h r → (os : List Object) × HoldsBy k h r os
  held Free r e s = ([], refl)
  held Ordinary r e s = (s.2, subst (λ k. HoldsBy k h r s.2) e s.3)
  held HumongousFirst r e s = (s.0 ∷ [], (s.0, s.1, refl))
  held Continuation r e s = ([], refl)

  has_back : (o : Object) → HasObject (without h roots slots) o → HasObject h o
  has_back o has =
      let k : Kind = (region h has.place).kind in
      let there = held k has.place refl (shaped has.place has.in_heap).by_kind in
      let same : has.others ≡ there.0 = holds_are k (without h roots slots) has.place has.others has.holds
      ∙ sym (holds_are k (without h roots slots) has.place there.0 (holds_kept k has.place there.0 has.in_heap refl there.1)) in
      record {
        place = has.place;
        others = has.others;
        in_heap = has.in_heap;
        holds = subst (λ os. HoldsBy k h has.place os) (sym same) there.1;
        one_of = has.one_of;
      }

  reference_kept : (x : ℕ) → IsReference h x → IsReference (without h roots slots) x
  reference_kept x (inl z) = inl z
  reference_kept x (inr r) = inr (r.0, has_kept r.0 r.1, r.2)

  root_good : (k : ℕ) → k < length h.roots → IsReference (without h roots slots) (slice_index (nulled roots h.roots) k)
  root_good k lt = elim (nulled_cases roots h.roots k) [
    | inl m ↦ inl (zero_listed roots h.roots k m.0 m.1 lt)
    | inr same ↦ elim (decided_reference h shaped (slice_index h.roots k)) [
      | inl good ↦ subst (IsReference (without h roots slots)) (sym same) (reference_kept (slice_index h.roots k) good)
      | inr bad ↦ inl (zero_listed roots h.roots k (slice_index h.roots k) (stale_roots.whole k (slice_index h.roots k) (lt, refl, bad)) lt)
    ]
  ]

  slot_in : (o : Object) (p : ℕ) → HasObject h o → IsSlotOf o p → p < length h.words
  slot_in o p has slot = omega (arith, ends_within h shaped o has, (has_header h o has).refs_fit, slot.1, draft.word_count)

  slot_good : (o : Object) (p : ℕ) → HasObject h o → IsSlotOf o p → IsReference (without h roots slots) (slice_index (nulled slots h.words) p)
  slot_good o p has slot = elim (nulled_cases slots h.words p) [
    | inl m ↦ inl (zero_listed slots h.words p m.0 m.1 (slot_in o p has slot))
    | inr same ↦ elim (decided_reference h shaped (slice_index h.words p)) [
      | inl good ↦ subst (IsReference (without h roots slots)) (sym same) (reference_kept (slice_index h.words p) good)
      | inr bad ↦ inl (zero_listed slots h.words p (slice_index h.words p) (stale_slots.whole p (slice_index h.words p) ((o, has, slot), refl, bad)) (slot_in o p has slot))
    ]
  ]

  pub valid_without : ((r : ℕ) → r < h.geometry.n → MayBePinned h r)
      → ((r i : ℕ) → r < h.geometry.n → (region h r).top ≤ i → i < h.geometry.w → slice_index h.words (start h r + i) ≡ 0) → IsValid (without h roots slots)
  valid_without pins zeros = record {
    limits = draft.limits;
    word_count = length-nulled slots h.words ∙ draft.word_count;
    word_fits = small_stays slots h.words draft.word_fits;
    region_count = draft.region_count;
    root_count = omega (arith, length-nulled roots h.roots, draft.root_count);
    shaped = λ r lt. record { by_kind = shaped_kept (region h r).kind r lt refl (shaped r lt).by_kind; current = (shaped r lt).current };
    pins = pins;
    zero_above = λ r i lt ge less. zero_stays slots h.words (start h r + i) (zeros r i lt ge less);
    roots = λ k d lt. subst (IsReference (without h roots slots)) (get_or_default (nulled roots h.roots) k 0 d lt) (root_good k (omega (arith, lt, length-nulled roots h.roots)));
    slots = λ o p has slot. slot_good o p (has_back o has) slot;
    current_in = draft.current_in;
  }

  -- stale slots are in the heap
  pub slot_places : All (λ (e : ℕ × ℕ). e.0 < length h.words) slots
  slot_places k d lt =
      let e : ℕ × ℕ = get_or slots k d in
      let s = stale_slots.sound e.0 e.1 (k, lt, get_or_default slots k e d lt) in
      slot_in s.0.0 e.0 s.0.1 s.0.2
