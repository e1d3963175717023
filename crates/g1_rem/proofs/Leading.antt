-- What leads into one region: the cards so far, the slots ahead, and the lowest slot that isn't covered.
use Rattle.std.proofs.Common.{◌≡◌, ◌≢◌, ◌≤◌, ◌<◌, inl, inr, ℕ, suc, ◌+◌, ◌-◌, ◌/◌, ◌%◌, ◌^◌, Bool, true, false, not, ◌&&◌, ◌||◌, List, [], ◌∷◌, ◌++◌, zero}
use Rattle.std.proofs.Common.{map, filter, flat_map, length, slice_index, slice_index_or, replicate, drop, Contains, refl, sym, ap, subst, ◌∙◌, arith, eqb, eqb-true, eq-eqb}
use Rattle.std.specs.List.{range_with_len, list_any}
use Rattle.std.specs.List.Sorted.{IsStrictlyIncreasing}
use Rattle.std.proofs.lemmas.Bool.{cases_lt, false≢true, or_parts, not-true, ne_eqb}
use Rattle.std.proofs.lemmas.List.{get_or_default}
use Rattle.std.proofs.lemmas.List.Kept.{AllPairs-from_increasing}
use Rattle.std.proofs.lemmas.Nat.{le-div}
use Rattle.std.proofs.Math.Nat.{div-mul-le_self}
use Rattle.std.proofs.lemmas.List.Elements.{Contains-append_left, Contains-push, Contains-push_cases}
use Rattle.g1_words.specs.declared.fault.Fault.TheVariants.{Uncovered}
use Rattle.g1_words.specs.Geometry.{most_words}
use Rattle.g1_words.specs.Heap.{Heap, word, region_of, card_of, start, objects, objects_in, object_at, slots}
use Rattle.g1_words.specs.Lists.{has}
use Rattle.g1_words.specs.References.{Ref, named, refs, refs_at}
use Rattle.g1_words.specs.Valid.{IsValid, Tiles}
use Rattle.g1_words.proofs.Members.{Contains-filter, Contains-first, Contains-flat_map, Contains-later, Contains-map, and_true, any_member, cons_cases, filter_member, flat_map_cases, map_cases, none_contains, or_true}
use Rattle.g1_words.proofs.Ordered.{Ordered, Ordered-from_pairs, pairs_from_ordered}
use Rattle.g1_words.proofs.Sound.{k_positive}
use Rattle.g1_words.proofs.Computed.{Contains-range, range_below, has_contains}
use Rattle.g1_words.proofs.Rising.{Ordered-append, Ordered-filter, Ordered-map, refs_ordered, ref_tells}
use Rattle.g1_image.specs.Image.{Image, IsImage, remembered_of}
use Rattle.g1_image.specs.Cards.{leads_into, is_exact, exact, is_covered}
use Rattle.g1_image.proofs.Covers.{exact_tells}
use Rattle.g1_words.specs.Marks.{AreMarked}
use Rattle.g1_rem.specs.Marks.{objects_from}
use Rattle.g1_rem.specs.Slots.{all_slots}
use Rattle.g1_rem.specs.Starts.{card_count}
use Rattle.g1_rem.proofs.Between.{between_all, between_none}
use Rattle.g1_rem.proofs.Card.{all_rise}
use Rattle.g1_words.proofs.Marked.{marked_then, marked_from_none}
use Rattle.g1_rem.proofs.Filled.{Tiles-none, row_front, row_rest, row_step}
use Rattle.g1_rem.proofs.Marks.{left_start}
use Rattle.g1_rem.proofs.Next.{NextOf}
use Rattle.g1_rem.proofs.Rising.{Rises, Rises-above, Rises-filter, Rises-range, Rises-one, Rises-increasing, increasing-Rises}
use Rattle.g1_rem.specs.Ahead.{is_entry, is_known, AreKnown, LeadAhead}
use Rattle.g1_rem.specs.Entries.{uncovered_into, IsEntryFault}

-- ---- lists

rising_push : (xs : List ℕ) (c : ℕ) → IsStrictlyIncreasing xs → ((x : ℕ) → Contains xs x → x < c) → IsStrictlyIncreasing (xs ++ c ∷ [])
rising_push xs c rising below =
    let o : Ordered (λ (x : ℕ) y. x < y) (xs ++ c ∷ []) =
    Ordered-append (λ (x : ℕ) y. x < y) xs (c ∷ []) (Ordered-from_pairs (λ (x : ℕ) y. x < y) xs (AllPairs-from_increasing xs rising)) ((λ y i. absurd (none_contains y i)), tt)
    (λ x y i j. elim (cons_cases c [] y j) [ inl e ↦ subst (λ z. x < z) e (below x i) | inr k ↦ absurd (none_contains y k) ]) in
    λ k lt. pairs_from_ordered (λ (x : ℕ) y. x < y) (xs ++ c ∷ []) o k (k + 1) 0 (omega arith) lt

-- a rising list begins with its least member
begins : (xs : List ℕ) (p : ℕ) → Ordered (λ (x : ℕ) y. x < y) xs → Contains xs p → ((q : ℕ) → Contains xs q → p ≤ q) → (rest : List ℕ) × (xs ≡ p ∷ rest)
begins [] p o i least = absurd (omega (arith, i.1))
begins (x ∷ xs) p o (zero, b, e) least = (xs, ap (λ z. z ∷ xs) e)
begins (x ∷ xs) p o (suc k, lt, e) least = let a = o.0 p (k, omega (arith, lt), e) in let b = least x (zero, omega arith, refl) in absurd (omega (arith, a, b))

no_members : (xs : List ℕ) → ((x : ℕ) → Contains xs x → ⊥) → xs ≡ []
no_members [] never = refl
no_members (x ∷ xs) never = absurd (never x (zero, omega arith, refl))

-- the first of a rising list, and the others
rises_at : (p : ℕ) (rest : List ℕ) → IsStrictlyIncreasing (p ∷ rest) → Rises 0 (p ∷ rest)
rises_at p rest rising = increasing-Rises (p ∷ rest) 0 rising (λ lt. omega arith)

-- the last of a rising list is its greatest
last_least : (xs : List ℕ) (c : ℕ) → IsStrictlyIncreasing xs → ((x : ℕ) → Contains xs x → x ≤ c) → (0 < length xs → slice_index xs (length xs - 1) ≡ c → ⊥) → (x : ℕ) → Contains xs x → x < c
last_least xs c rising below other x k =
    let some : 0 < length xs = omega (arith, k.1) in
    let last : ℕ = slice_index xs (length xs - 1) in
    let at : slice_index xs k.0 ≡ x = get_or_default xs k.0 0 x k.1 ∙ k.2 in
    let le : slice_index xs (length xs - 1) ≤ c = below last (length xs - 1, omega (arith, some), get_or_default xs (length xs - 1) last 0 (omega (arith, some))) in
    elim (cases_lt (slice_index xs (length xs - 1)) c) [
      | inl less ↦ elim (cases_lt k.0 (length xs - 1)) [
        | inl before ↦ (let up = AllPairs-from_increasing xs rising k.0 (length xs - 1) 0 before (omega (arith, some)) in omega (arith, up, less, at))
        | inr ge ↦ (let same : k.0 ≡ length xs - 1 = omega (arith, ge, k.1) in let e = ap (slice_index xs) same in omega (arith, e, at, less))
      ]
      | inr ge ↦ (let same : slice_index xs (length xs - 1) ≡ c = omega (arith, ge, le) in absurd (other some same))
    ]

-- ---- slots and what they reference

module _ (h : Heap) (valid : IsValid h) (r : ℕ) where
  -- what a slot that leads into the region references
  record Entry (p : ℕ) : Type 0 where
    pub ref : Ref
    pub one_of : Contains (refs h) ref
    pub at : ref.slot ≡ p
    pub leads : leads_into h r ref ≡ true

  entry_of : (p : ℕ) → Contains (all_slots h) p → is_entry h r p ≡ true → Entry p
  entry_of p i t =
      let m = any_member (leads_into h r) (refs_at h p) t in
      let f = flat_map_cases slots (objects h) p i in
      let a = map_cases (λ a. record { slot = p; target = a }) (named (word h p)) m.0 m.1 in
      record {
        ref = m.0;
        one_of = Contains-flat_map (λ o. flat_map (refs_at h) (slots o)) (objects h) f.0 m.0 f.1 (Contains-flat_map (refs_at h) (slots f.0) p m.0 f.2 m.1);
        at = sym (ap (λ (x : Ref). x.slot) a.2);
        leads = m.2;
      }

  -- a reference's slot is one of the heap's
  slot_there : (e : Ref) → Contains (refs h) e → Contains (all_slots h) e.slot
  slot_there e k =
      let t = ref_tells h valid e k in
      Contains-flat_map slots (objects h) t.0 e.slot (has_contains h t.0 t.1)
      (Contains-range (t.0.at + 1) t.0.refs e.slot (omega (arith, t.2.0)) (omega (arith, t.2.1)))

  -- the slot of a reference that leads in does
  leads_there : (e : Ref) → Contains (refs h) e → leads_into h r e ≡ true → is_entry h r e.slot ≡ true
  leads_there e k t =
      let w = (ref_tells h valid e k).3 in
      let plus : e.target + 1 ≡ suc e.target = omega arith in
      ap (λ x. list_any (leads_into h r) (map (λ a. record { slot = e.slot; target = a }) (named x))) (w ∙ plus) ∙ ap (λ b. b || false) t

-- a card of the exact set is one of the heap's
pub exact_below : (h : Heap) (r c : ℕ) → Contains (exact h r) c → c < card_count h
exact_below h r c k =
    let b = range_below 0 (card_count h) c (filter_member (is_exact h r) (range_with_len 0 (card_count h)) c k).0 in
    omega (arith, b)

-- the marks of a remembered set and of the log
pub known_told : (i : Image) (r count : ℕ) (old mid new : List Bool) → count ≡ card_count i.heap → old ≡ replicate count false
    → AreMarked (has (remembered_of i r)) old mid → AreMarked (has i.log) mid new → AreKnown i r new
known_told i r count old mid new n none set log = λ c lt.
    marked_from_none (is_known i r) count old new none
    (marked_then (has (remembered_of i r)) (has i.log) (is_known i r) old mid new set log (λ c. refl)) c (omega (arith, lt, n))

-- what the word at a slot tells
pub entry_null : (h : Heap) (r p : ℕ) → word h p ≡ 0 → is_entry h r p ≡ false
entry_null h r p w = ap (λ x. list_any (leads_into h r) (map (λ a. record { slot = p; target = a }) (named x))) w

pub entry_named : (h : Heap) (r p a : ℕ) → word h p ≡ suc a → is_entry h r p ≡ (eqb (region_of h a) r && not (eqb (region_of h p) r))
entry_named h r p a w =
    ap (λ x. list_any (leads_into h r) (map (λ a. record { slot = p; target = a }) (named x))) w ∙ or_false (eqb (region_of h a) r && not (eqb (region_of h p) r))
  where
    or_false : (b : Bool) → (b || false) ≡ b
    or_false true = refl
    or_false false = refl

module _ (i : Image) (good : IsImage i) (r : ℕ) where
  by_hand : (e : Ref) (a b c : Bool) → eqb (region_of i.heap e.slot) (region_of i.heap e.target) ≡ a → has (remembered_of i (region_of i.heap e.target)) (card_of i.heap e.slot) ≡ b
      → has i.log (card_of i.heap e.slot) ≡ c → is_covered i e ≡ ((a || b) || c)
  by_hand e a b c f g k = rw (f, g, k) refl

  -- the parts of what leads into the region
  record Parts (e : Ref) : Type 0 where
    pub into : region_of i.heap e.target ≡ r
    pub out : region_of i.heap e.slot ≢ r

  parts : (e : Ref) → leads_into i.heap r e ≡ true → Parts e
  parts e t =
      let both = and_true (eqb (region_of i.heap e.target) r) (not (eqb (region_of i.heap e.slot) r)) t in
      record {
        into = eqb-true (region_of i.heap e.target) r both.0;
        out = λ z. false≢true (sym (not-true (eqb (region_of i.heap e.slot) r) both.1) ∙ eq-eqb (region_of i.heap e.slot) r z);
      }

  puts : (e : Ref) → Contains (refs i.heap) e → leads_into i.heap r e ≡ true → Contains (exact i.heap r) (card_of i.heap e.slot)
  puts e k t = let q = parts e t in (exact_tells i.heap good.heap r (card_of i.heap e.slot)).1 (e, k, q.into, q.out, refl)

  -- a reference from a card that neither the set nor the log has isn't covered
  bare : (e : Ref) → leads_into i.heap r e ≡ true → has (remembered_of i r) (card_of i.heap e.slot) ≡ false → has i.log (card_of i.heap e.slot) ≡ false → is_covered i e ≡ false
  bare e t f g =
      let q = parts e t in
      by_hand e false false false (ne_eqb (region_of i.heap e.slot) (region_of i.heap e.target) (λ z. q.out (z ∙ q.into)))
      (ap (λ x. has (remembered_of i x) (card_of i.heap e.slot)) q.into ∙ f) g

  or_last : (a b : Bool) → ((a || b) || true) ≡ true
  or_last true true = refl
  or_last true false = refl
  or_last false true = refl
  or_last false false = refl

  or_middle : (a c : Bool) → ((a || true) || c) ≡ true
  or_middle true c = refl
  or_middle false c = refl

  -- one from a card that the set or the log has is
  shown : (e : Ref) → leads_into i.heap r e ≡ true → is_known i r (card_of i.heap e.slot) ≡ true → is_covered i e ≡ true
  shown e t k =
      let q = parts e t in
      let c : ℕ = card_of i.heap e.slot in
      let same : Bool = eqb (region_of i.heap e.slot) (region_of i.heap e.target) in
      elim (or_true (has (remembered_of i r) c) (has i.log c) k) [
        | inl m ↦ by_hand e same true (has i.log c) refl (ap (λ x. has (remembered_of i x) c) q.into ∙ m) refl ∙ or_middle same (has i.log c)
        | inr m ↦
            by_hand e same (has (remembered_of i (region_of i.heap e.target)) c) true refl refl m
            ∙ or_last same (has (remembered_of i (region_of i.heap e.target)) c)
      ]

  -- a slot into the region that isn't covered
  record Bare (q : ℕ) : Type 0 where
    pub ref : Ref
    pub one_of : Contains (refs i.heap) ref
    pub at : ref.slot ≡ q
    pub leads : leads_into i.heap r ref ≡ true
    pub isnt : is_covered i ref ≡ false

  bare_of : (q : ℕ) → Contains (uncovered_into i r) q → Bare q
  bare_of q k =
      let test : Ref → Bool = λ e. leads_into i.heap r e && not (is_covered i e) in
      let m = map_cases (λ (e : Ref). e.slot) (filter test (refs i.heap)) q k in
      let f = filter_member test (refs i.heap) m.0 m.1 in
      let both = and_true (leads_into i.heap r m.0) (not (is_covered i m.0)) f.1 in
      record {
        ref = m.0;
        one_of = f.0;
        at = m.2;
        leads = both.0;
        isnt = not-true (is_covered i m.0) both.1;
      }

  -- such a slot is still ahead
  not_yet : (ahead cards : List ℕ) → LeadAhead i r ahead cards → (q : ℕ) → Bare q → Contains ahead q
  not_yet ahead cards l q b = elim (l.whole b.ref b.one_of b.leads) [
    | inl m ↦ absurd (false≢true (sym b.isnt ∙ shown b.ref b.leads (l.known (card_of i.heap b.ref.slot) m)))
    | inr m ↦ subst (Contains ahead) b.at m
  ]

  -- none ahead, and each is covered
  pub all_covered : (cards : List ℕ) → LeadAhead i r [] cards → uncovered_into i r ≡ []
  all_covered cards l = no_members (uncovered_into i r) (λ q k. none_contains q (not_yet [] cards l q (bare_of q k)))

  -- and the cards are the exact set
  pub all_exact : (cards : List ℕ) → LeadAhead i r [] cards → cards ≡ exact i.heap r
  all_exact cards l =
      Rises-one 0 0 cards (exact i.heap r) (increasing-Rises cards 0 l.rising (λ lt. omega arith))
      (Rises-filter (is_exact i.heap r) 0 (range_with_len 0 (card_count i.heap)) (Rises-range 0 (card_count i.heap)))
      l.within
      (λ c k.
      let p = (exact_tells i.heap good.heap r c).0 k in
      let leads : leads_into i.heap r p.0 ≡ true = rw (eq-eqb (region_of i.heap p.0.target) r p.2, ne_eqb (region_of i.heap p.0.slot) r p.3) refl in
      let there : Contains cards (card_of i.heap p.0.slot) = elim (l.whole p.0 p.1 leads) [ inl m ↦ m | inr m ↦ absurd (none_contains p.0.slot m) ] in
      subst (Contains cards) p.4 there)

  uncovered_rise : Ordered (λ (x : ℕ) y. x < y) (uncovered_into i r)
  uncovered_rise =
      let test : Ref → Bool = λ e. leads_into i.heap r e && not (is_covered i e) in
      Ordered-map (λ (x : ℕ) y. x < y) (λ (e : Ref). e.slot) (filter test (refs i.heap)) (Ordered-filter (λ (e : Ref) (f : Ref). e.slot < f.slot) test (refs i.heap) (refs_ordered i.heap good.heap))

  -- ---- one slot after another

  module _ (p : ℕ) (rest cards : List ℕ) (l : LeadAhead i r (p ∷ rest) cards) where
    beyond : (q : ℕ) → Contains rest q → p < q
    beyond q k = let a = Rises-above (p + 1) rest q (rises_at p rest l.order).1 k in omega (arith, a)

    -- the slot is passed, if its card is there or it doesn't lead in
    pass : ((e : Ref) → Contains (refs i.heap) e → leads_into i.heap r e ≡ true → p ≡ e.slot → Contains cards (card_of i.heap e.slot)) → LeadAhead i r rest cards
    pass there = record {
      rising = l.rising;
      within = l.within;
      known = l.known;
      whole = λ e k t. elim (l.whole e k t) [
        | inl m ↦ inl m
        | inr m ↦ elim (cons_cases p rest e.slot m) [
          | inl same ↦ inl (there e k t same)
          | inr other ↦ inr other
        ]
      ];
      order = Rises-increasing (p + 1) rest (rises_at p rest l.order).1;
      slots = λ q k. l.slots q (Contains-later p rest q k);
      below = λ x q k m. l.below x q k (Contains-later p rest q m);
    }

    pub pass_other : false ≡ is_entry i.heap r p → LeadAhead i r rest cards
    pass_other f = pass (λ e k t same. absurd (false≢true (f ∙ ap (is_entry i.heap r) same ∙ leads_there i.heap good.heap r e k t)))

    pub pass_same : (c : ℕ) → c ≡ card_of i.heap p → 0 < length cards → slice_index cards (length cards - 1) ≡ c → LeadAhead i r rest cards
    pass_same c at some last = pass (λ e k t same.
        let is : slice_index cards (length cards - 1) ≡ card_of i.heap e.slot = last ∙ at ∙ ap (card_of i.heap) same in
        (length cards - 1, omega (arith, some), get_or_default cards (length cards - 1) (card_of i.heap e.slot) 0 (omega (arith, some)) ∙ is))

    -- what it references
    here : is_entry i.heap r p ≡ true → Entry i.heap good.heap r p
    here t = entry_of i.heap good.heap r p (l.slots p (Contains-first p rest)) t

    -- its card is in the exact set
    leading : is_entry i.heap r p ≡ true → (c : ℕ) → c ≡ card_of i.heap p → Contains (exact i.heap r) c
    leading t c at = let e = here t in subst (Contains (exact i.heap r)) (ap (card_of i.heap) e.at ∙ sym at) (puts e.ref e.one_of e.leads)

    -- a card more
    pub push : is_entry i.heap r p ≡ true → (c : ℕ) (marks : List Bool) (items : List ℕ) → c ≡ card_of i.heap p → (0 < length cards → slice_index cards (length cards - 1) ≡ c → ⊥)
        → AreKnown i r marks → slice_index_or marks c false ≡ true → items ≡ cards ++ c ∷ [] → LeadAhead i r rest items
    push t c marks items at other m marked is = subst (LeadAhead i r rest) (sym is) (record {
      rising = rising_push cards c l.rising less;
      within = λ x k. elim (Contains-push_cases cards c x k) [ inl old ↦ l.within x old | inr e ↦ subst (Contains (exact i.heap r)) e (leading t c at) ];
      known = λ x k. elim (Contains-push_cases cards c x k) [
        | inl old ↦ l.known x old
        | inr e ↦ subst (λ y. is_known i r y ≡ true) e (sym (m c (exact_below i.heap r c (leading t c at))) ∙ marked)
      ];
      whole = λ e k u. elim (l.whole e k u) [
        | inl m ↦ inl (Contains-append_left cards (c ∷ []) (card_of i.heap e.slot) m)
        | inr m ↦ elim (cons_cases p rest e.slot m) [
          | inl same ↦ inl (subst (Contains (cards ++ c ∷ [])) (at ∙ ap (card_of i.heap) same) (Contains-push cards c))
          | inr other ↦ inr other
        ]
      ];
      order = Rises-increasing (p + 1) rest (rises_at p rest l.order).1;
      slots = λ q k. l.slots q (Contains-later p rest q k);
      below = λ x q k m. elim (Contains-push_cases cards c x k) [
        | inr e ↦ (
            let up = le-div (p / i.heap.geometry.k) q i.heap.geometry.k (k_positive i.heap good.heap) (omega (arith, div-mul-le_self p i.heap.geometry.k, beyond q m)) in
            omega (arith, up, e, at))
        | inl old ↦ l.below x q old (Contains-later p rest q m)
      ];
    })
      where
        less : (x : ℕ) → Contains cards x → x < c
        less = last_least cards c l.rising (λ x k. let b = l.below x p k (Contains-first p rest) in omega (arith, b, at)) other

    -- a slot that isn't covered is the lowest one
    pub entry_fault : is_entry i.heap r p ≡ true → (c : ℕ) (marks : List Bool) → c ≡ card_of i.heap p → AreKnown i r marks → slice_index_or marks c false ≡ false → IsEntryFault i r (Uncovered p)
    entry_fault t c marks at m unmarked =
        let neither = or_parts (has (remembered_of i r) c) (has i.log c) (sym (m c (exact_below i.heap r c (leading t c at))) ∙ unmarked) in
        let test : Ref → Bool = λ e. leads_into i.heap r e && not (is_covered i e) in
        let e = here t in
        let home : card_of i.heap e.ref.slot ≡ c = ap (card_of i.heap) e.at ∙ sym at in
        let isnt : is_covered i e.ref ≡ false = bare e.ref e.leads (ap (has (remembered_of i r)) home ∙ neither.0) (ap (has i.log) home ∙ neither.1) in
        let passes : test e.ref ≡ true = rw (e.leads, isnt) refl in
        let there : Contains (uncovered_into i r) p = subst (Contains (uncovered_into i r)) e.at
        (Contains-map (λ (x : Ref). x.slot) (filter test (refs i.heap)) e.ref (Contains-filter test (refs i.heap) e.ref e.one_of passes)) in
        let least : (q : ℕ) → Contains (uncovered_into i r) q → p ≤ q = λ q k. elim (cons_cases p rest q (not_yet (p ∷ rest) cards l q (bare_of q k))) [
          | inl same ↦ omega (arith, same)
          | inr other ↦ (let b = beyond q other in omega (arith, b))
        ] in
        let b = begins (uncovered_into i r) p uncovered_rise there least in
        inr (p, b.0, b.1, refl)

  -- ---- one region after another

  -- none was looked at yet
  pub lead_start : (cards : List ℕ) → cards ≡ [] → LeadAhead i r (flat_map slots (objects_from i.heap 0)) cards
  lead_start cards none = subst (λ os. LeadAhead i r (flat_map slots os) cards) (sym (between_all i.heap)) (subst (LeadAhead i r (all_slots i.heap)) (sym none) (record {
    rising = λ k lt. absurd (omega (arith, lt));
    within = λ x k. absurd (none_contains x k);
    known = λ x k. absurd (none_contains x k);
    whole = λ e k t. inr (slot_there i.heap good.heap r e k);
    order = Rises-increasing 0 (all_slots i.heap) (all_rise i.heap good.heap);
    slots = λ p k. k;
    below = λ x p k m. absurd (none_contains x k);
  }))

  -- past the last region none is ahead
  pub lead_end : (q : ℕ) (cards : List ℕ) → i.heap.geometry.n ≤ q → LeadAhead i r (flat_map slots (objects_from i.heap q)) cards → LeadAhead i r [] cards
  lead_end q cards le l = subst (λ os. LeadAhead i r (flat_map slots os) cards) (between_none i.heap q i.heap.geometry.n le) l

-- the slots of the objects in region q are looked at up to an address
pub record Taking (i : Image) (r q at to : ℕ) (cards : List ℕ) : Type 0 where
  pub place : ℕ
  pub row : Tiles i.heap.words at (drop place (objects_in i.heap q)) to
  pub lead : LeadAhead i r (flat_map slots (drop place (objects_in i.heap q) ++ objects_from i.heap (q + 1))) cards

-- before the first object
pub taking_start : (i : Image) (r q at to : ℕ) (cards : List ℕ) → IsValid i.heap → q < i.heap.geometry.n → at ≡ start i.heap q
    → Tiles i.heap.words (start i.heap q) (objects_in i.heap q) to → LeadAhead i r (flat_map slots (objects_from i.heap q)) cards → Taking i r q at to cards
taking_start i r q at to cards valid lt e t lead = record {
  place = 0;
  row = subst (λ x. Tiles i.heap.words x (objects_in i.heap q) to) (sym e) t;
  lead = subst (λ os. LeadAhead i r (flat_map slots os) cards) (left_start i.heap valid q lt) lead;
}

-- past the last one
pub taking_end : (i : Image) (r q at to : ℕ) (cards : List ℕ) → Taking i r q at to cards → to ≤ at → LeadAhead i r (flat_map slots (objects_from i.heap (q + 1))) cards
taking_end i r q at to cards t le =
    subst (λ os. LeadAhead i r (flat_map slots (os ++ objects_from i.heap (q + 1))) cards) (Tiles-none i.heap.words at (drop t.place (objects_in i.heap q)) to t.row le) t.lead

module _ (i : Image) (r q at to : ℕ) (cards : List ℕ) (valid : IsValid i.heap) (lt : q < i.heap.geometry.n) (t : Taking i r q at to cards) (more : at < to) where
  -- the object whose slots are next
  pub taking_front : NextOf i.heap q t.place at
  taking_front = row_front i.heap q valid lt t.place at to t.row more

  -- the slots of the objects after it
  abbrev pub taking_rest : List ℕ
  taking_rest = flat_map slots (drop (t.place + 1) (objects_in i.heap q) ++ objects_from i.heap (q + 1))

  -- it has a word at least, and ends within the words
  pub taking_fits : (size : ℕ) → size ≡ (object_at i.heap at).size → (0 < size) × (at + size ≤ most_words)
  taking_fits size e =
      let n = row_front i.heap q valid lt t.place at to t.row more in
      let same = ap (λ o. o.size) n.whole in
      let step = row_step i.heap q t.place at to n t.row in
      (omega (arith, step.0, same, e), omega (arith, n.ends, same, e, valid.limits.words_most))

  -- its slots are the first ones ahead
  pub taking_slots : (count : ℕ) → count ≡ word i.heap at % 2 ^ 32 → LeadAhead i r (range_with_len (at + 1) (at + 1 + count - (at + 1)) ++ taking_rest) cards
  taking_slots count e =
      let n = row_front i.heap q valid lt t.place at to t.row more in
      let many : n.object.refs ≡ at + 1 + count - (at + 1) = omega (arith, n.refs_is, e) in
      let same : slots n.object ≡ range_with_len (at + 1) (at + 1 + count - (at + 1)) = ap (λ x. range_with_len (x + 1) n.object.refs) (sym n.at_is) ∙ ap (range_with_len (at + 1)) many in
      subst (λ ps. LeadAhead i r (ps ++ taking_rest) cards) same
      (subst (λ os. LeadAhead i r (flat_map slots (os ++ objects_from i.heap (q + 1))) cards) n.splits t.lead)

  -- the walk goes on
  pub taking_step : (size : ℕ) (items : List ℕ) → size ≡ (object_at i.heap at).size → LeadAhead i r taking_rest items → Taking i r q (at + size) to items
  taking_step size items f lead =
      let n = row_front i.heap q valid lt t.place at to t.row more in
      let same : n.object.size ≡ size = ap (λ o. o.size) n.whole ∙ sym f in
      record {
        place = t.place + 1;
        row = subst (λ x. Tiles i.heap.words (at + x) (drop (t.place + 1) (objects_in i.heap q)) to) same (row_rest i.heap q t.place at to n t.row);
        lead = lead;
      }
