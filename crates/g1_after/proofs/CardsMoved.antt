-- The remembered sets of the image after keep their rules.
use Rattle.std.proofs.Common.{◌≡◌, ◌≢◌, ℕ, suc, ◌+◌, ◌-◌, ◌*◌, ◌/◌, ◌^◌, ◌<◌, ◌≤◌, ◌⊎◌, inl, inr, Bool, true, false, cond, not, ◌&&◌, ◌||◌, List, [], ◌∷◌, length, get_or, filter, flat_map}
use Rattle.std.proofs.Common.{Contains, refl, sym, ◌∙◌, ap, subst, arith, eqb, eqb-true, eq-eqb, lit<}
use Rattle.std.specs.List.{range_with_len}
use Rattle.std.specs.List.Sorted.{IsStrictlyIncreasing}
use Rattle.std.proofs.lemmas.Bool.{cases_Bool, cases_lt, false≢true, not-true, and_parts, or_cases}
use Rattle.std.proofs.lemmas.List.{get_or_past}
use Rattle.std.proofs.lemmas.List.Elements.{Contains-get_or}
use Rattle.std.proofs.lemmas.List.FromFn.{get_or-map-range_with_len, length-map-range_with_len, length-range_with_len}
use Rattle.std.proofs.Math.Nat.{div-le_self, div-mul-le_self, mul-le-mul_right}
use Rattle.g1_image.proofs.Covers.{cards_rise}
use Rattle.g1_after.proofs.CoveredMoved.{covered_moved}
use Rattle.g1_after.proofs.ObjectsOf.{used_not_to_space}
use Rattle.g1_after.proofs.RulesMoved.{valid_moved}
use Rattle.g1_after.proofs.ValidMoved.{other_shape, sound_before}
use Rattle.g1_image.specs.Cards.{IsTracked, cards_where, exact, is_exact, is_refined, leads_into}
use Rattle.g1_image.specs.Image.{Image, IsImage, IsLog, IsRememberedSet, IsUsedCard, MayHoldCards, region_of_card, remembered_of, card_in}
use Rattle.g1_after.specs.Moved.{IsMoved, remembered_moved}
use Rattle.g1_words.proofs.Bounds.{card_in_region, cards_in_region}
use Rattle.g1_words.proofs.Indices.{range_bounds}
use Rattle.g1_words.proofs.Members.{any_member, filter_member, flat_map_cases, Contains-from_has, map_cases, none_contains}
use Rattle.g1_words.proofs.Ordered.{pairs_from_ordered}
use Rattle.g1_words.proofs.Shapes.{IsBuilt, built, valid_of}
use Rattle.g1_words.proofs.Sound.{IsSound}
use Rattle.g1_words.proofs.Standing.{card_positive, home, home_region, stands_refs, word_used}
use Rattle.g1_words.specs.Geometry.{Geometry}
use Rattle.g1_words.specs.Heap.{Heap, card_of, free_region, kind, object_at, objects, region_of, slots, word}
use Rattle.g1_words.specs.Layout.{to_space, HasRoom}
use Rattle.g1_words.specs.Lists.{has}
use Rattle.g1_words.specs.References.{Ref, named, refs, refs_at}
use Rattle.g1_words.specs.declared.region.Kind.{Kind}
use Rattle.g1_words.specs.declared.region.Kind.TheVariants.{Continuation, Free, HumongousFirst, Ordinary}
use Rattle.g1_words.specs.declared.region.Region.{Region}

-- a card of the heap, in a used region
abbrev pub IsCard : Heap → ℕ → Type 0
IsCard h c = (c < h.geometry.n * h.geometry.w / h.geometry.k) × (kind h (c * h.geometry.k / h.geometry.w) ≢ Free)

pub length-filter-le : {A : Type 0} (p : A → Bool) (xs : List A) → length (filter p xs) ≤ length xs
length-filter-le p [] = omega arith
length-filter-le p (x ∷ xs) = let k = length-filter-le p xs in elim (p x) as (λ b. length (cond b (x ∷ filter p xs) (filter p xs)) ≤ suc (length xs)) [ true ↦ omega arith | false ↦ omega arith ]

card_starts : (w k n c : ℕ) → 0 < k → c < n * w / k → c * k < n * w
card_starts w k n c pos lt =
    let a = div-mul-le_self (n * w) k in
    let b : suc c * k ≤ n * w / k * k = mul-le-mul_right k (omega (arith, lt)) in
    omega arith

holder : (k : Kind) → MayHoldCards k → (k ≡ Ordinary) ⊎ (k ≡ HumongousFirst)
holder Free m = absurd m
holder Ordinary m = inl refl
holder HumongousFirst m = inr refl
holder Continuation m = absurd m

may_hold : (k : Kind) → (k ≡ Ordinary) ⊎ (k ≡ HumongousFirst) → MayHoldCards k
may_hold Free (inl e) = cc
may_hold Free (inr e) = cc
may_hold Ordinary d = tt
may_hold HumongousFirst d = tt
may_hold Continuation (inl e) = cc
may_hold Continuation (inr e) = cc

-- a card of a remembered set, and its owner
card_of_set : (i : Image) → IsImage i → (r c : ℕ) → r < i.heap.geometry.n → Contains (remembered_of i r) c
    → (kind i.heap (c * i.heap.geometry.k / i.heap.geometry.w) ≢ Free) × (c * i.heap.geometry.k / i.heap.geometry.w ≢ r) × ((kind i.heap r ≡ Ordinary) ⊎ (kind i.heap r ≡ HumongousFirst))
card_of_set i image r c lt m =
    let s = image.remembered r lt in
    let e = subst (λ x. IsUsedCard i.heap x × (region_of_card i.heap x ≢ r)) m.2 (s.elsewhere m.0 c m.1) in
    (e.0.used, e.1, holder (kind i.heap r) (s.owner (omega (arith, m.1))))

-- a card that is exact for a region lies in another, used region, and some object starts in the region itself
pub exact_card : (h : Heap) → IsBuilt h → (r c : ℕ) → is_exact h r c ≡ true →
    (kind h (c * h.geometry.k / h.geometry.w) ≢ Free) × (c * h.geometry.k / h.geometry.w ≢ r) × ((kind h r ≡ Ordinary) ⊎ (kind h r ≡ HumongousFirst))
exact_card h valid r c t =
    let m = any_member (λ e. leads_into h r e && eqb (card_of h e.slot) c) (refs h) t in
    let e : Ref = m.0 in
    let a = and_parts (leads_into h r e) (eqb (card_of h e.slot) c) m.2 in
    let b = and_parts (eqb (region_of h e.target) r) (not (eqb (region_of h e.slot) r)) a.0 in
    let to : region_of h e.target ≡ r = eqb-true (region_of h e.target) r b.0 in
    let away : eqb (region_of h e.slot) r ≡ false = not-true (eqb (region_of h e.slot) r) b.1 in
    let card : card_of h e.slot ≡ c = eqb-true (card_of h e.slot) c a.1 in
    let d = cards_in_region h.geometry.w h.geometry.k h.geometry.n valid.limits in
    let at : c * h.geometry.k / h.geometry.w ≡ region_of h e.slot = ap (λ y. y * h.geometry.k / h.geometry.w) (sym card)
    ∙ card_in_region h.geometry.w h.geometry.k d.0 e.slot (card_positive h.geometry.w h.geometry.k h.geometry.n valid.limits) d.1 in
    let o = flat_map_cases (λ o. flat_map (refs_at h) (slots o)) (objects h) e m.1 in
    let p = flat_map_cases (refs_at h) (slots o.0) e o.2 in
    let q = map_cases (λ a. record { slot = p.0; target = a }) (named (word h p.0)) e p.2 in
    let slot : p.0 ≡ e.slot = ap (λ (x : Ref). x.slot) q.2 in
    let f = range_bounds (o.0.at + 1) o.0.refs p.0 p.1 in
    let s = home h valid o.0 o.1 in
    let fits = stands_refs h valid s.0 o.0 s.2 in
    let x : ℕ = p.0 - o.0.at in
    let sum : o.0.at + x ≡ e.slot = omega arith in
    let used = word_used h valid s.0 o.0 x s.2 (omega arith) in
    let t = home h valid (object_at h e.target) (valid.slot_named e m.1) in
    let there : t.0 ≡ r = sym (home_region h valid t.0 (object_at h e.target) t.2) ∙ to in (
      (λ z. used.1 (ap (λ y. kind h (region_of h y)) sum ∙ ap (kind h) (sym at) ∙ z)),
      (λ z. false≢true (sym away ∙ eq-eqb (region_of h e.slot) r (sym at ∙ z))),
      elim t.2.2 [ inl a ↦ inl (ap (kind h) (sym there) ∙ a.kind) | inr a ↦ inr (ap (kind h) (sym there) ∙ a.kind) ],
    )

module _ (i : Image) (set l : List ℕ) (j : Image) (valid : IsBuilt i.heap) (room : HasRoom i.heap set l) (moved : IsMoved i set l j) (image : IsImage i) where
  v : IsBuilt j.heap
  v = valid_moved i set l j valid room moved

  s : IsSound i.heap
  s = sound_before i set l j valid room moved

  abbrev test : ℕ → ℕ → Bool
  test r c = (is_refined i r c && not (card_in i.heap set c)) || (card_in i.heap (to_space i.heap l) c && is_exact j.heap r c)

  rem_is : (r : ℕ) → r < i.heap.geometry.n → remembered_of j r ≡ remembered_moved i set l j.heap r
  rem_is r lt = ap (λ xs. get_or xs r []) moved.remembered ∙ get_or-map-range_with_len (remembered_moved i set l j.heap) 0 i.heap.geometry.n r r [] lt (omega arith)

  remembered_set : (r : ℕ) → r < i.heap.geometry.n → has set r ≡ true → remembered_of j r ≡ []
  remembered_set r lt t = rem_is r lt ∙ (λ q. cond (t q) [] (cond (has (to_space i.heap l) r) (exact j.heap r) (cards_where i.heap (test r))))

  rem_goal : (r : ℕ) → r < i.heap.geometry.n → has set r ≡ false → has (to_space i.heap l) r ≡ true → remembered_of j r ≡ exact j.heap r
  rem_goal r lt a t = rem_is r lt ∙ (λ q. cond (a q) [] (cond (t q) (exact j.heap r) (cards_where i.heap (test r))))

  rem_other : (r : ℕ) → r < i.heap.geometry.n → has set r ≡ false → has (to_space i.heap l) r ≡ false → remembered_of j r ≡ cards_where i.heap (test r)
  rem_other r lt a b = rem_is r lt ∙ (λ q. cond (a q) [] (cond (b q) (exact j.heap r) (cards_where i.heap (test r))))

  same_kc : (c : ℕ) → c * j.heap.geometry.k / j.heap.geometry.w ≡ c * i.heap.geometry.k / i.heap.geometry.w
  same_kc c = λ t. c * (moved.geometry t).k / (moved.geometry t).w

  cards_same : j.heap.geometry.n * j.heap.geometry.w / j.heap.geometry.k ≡ i.heap.geometry.n * i.heap.geometry.w / i.heap.geometry.k
  cards_same = λ t. (moved.geometry t).n * (moved.geometry t).w / (moved.geometry t).k

  -- what a card of a region's set may be
  abbrev Right : ℕ → ℕ → Type 0
  Right r c = IsCard j.heap c × (c * j.heap.geometry.k / j.heap.geometry.w ≢ r) × ((kind j.heap r ≡ Ordinary) ⊎ (kind j.heap r ≡ HumongousFirst))

  by_exact : (r c : ℕ) → c < j.heap.geometry.n * j.heap.geometry.w / j.heap.geometry.k → is_exact j.heap r c ≡ true → Right r c
  by_exact r c lt t = let e = exact_card j.heap v r c t in ((lt, e.0), e.1, e.2)

  -- a used card that isn't in the set stays used
  stays_used : (c : ℕ) → c * i.heap.geometry.k / i.heap.geometry.w < i.heap.geometry.n →
      kind i.heap (c * i.heap.geometry.k / i.heap.geometry.w) ≢ Free → card_in i.heap set c ≡ false → kind j.heap (c * j.heap.geometry.k / j.heap.geometry.w) ≢ Free
  stays_used c lt used out z =
      let q : ℕ = c * i.heap.geometry.k / i.heap.geometry.w in
      let shape = other_shape i set l j valid room moved q lt out (used_not_to_space i.heap set l s room q used) in
      used (sym shape.0 ∙ ap (kind j.heap) (sym (same_kc c)) ∙ z)

  -- a used region is one of the heap's
  in_heap : (q : ℕ) → kind i.heap q ≢ Free → q < i.heap.geometry.n
  in_heap q used = elim (cases_lt q i.heap.geometry.n) [
    | inl lt ↦ lt
    | inr ge ↦ absurd
        (used (ap (λ (x : Region). x.kind) (get_or_past i.heap.regions q free_region (let k = valid.region_count in omega arith))))
  ]

  by_refined : (r c : ℕ) → r < i.heap.geometry.n → has set r ≡ false → has (to_space i.heap l) r ≡ false →
      c < j.heap.geometry.n * j.heap.geometry.w / j.heap.geometry.k → is_refined i r c ≡ true → card_in i.heap set c ≡ false → Right r c
  by_refined r c lt a b below t out = elim (or_cases (has (remembered_of i r) c) (has i.log c && is_exact i.heap r c) t) [
    | inl x ↦
        let m : Contains (remembered_of i r) c = Contains-from_has (remembered_of i r) c x in
        let u = card_of_set i image r c lt m in
        let shape = other_shape i set l j valid room moved r lt a b in (
          (below, stays_used c (in_heap (c * i.heap.geometry.k / i.heap.geometry.w) u.0) u.0 out),
          (λ z. u.1 (sym (same_kc c) ∙ z)),
          (elim u.2
              [ inl y ↦ inl (shape.0 ∙ y) | inr y ↦ inr (shape.0 ∙ y) ]),
        )
    | inr x ↦
        let e = exact_card i.heap valid r c (and_parts (has i.log c) (is_exact i.heap r c) x).1 in
        let shape = other_shape i set l j valid room moved r lt a b in (
          (below, stays_used c (in_heap (c * i.heap.geometry.k / i.heap.geometry.w) e.0) e.0 out),
          (λ z. e.1 (sym (same_kc c) ∙ z)),
          (elim e.2
              [ inl y ↦ inl (shape.0 ∙ y) | inr y ↦ inr (shape.0 ∙ y) ]),
        )
  ]

  right_in : (r c : ℕ) → r < i.heap.geometry.n → Contains (remembered_of j r) c → Right r c
  right_in r c lt m = elim (cases_Bool (has set r)) [
    | inl t ↦ absurd (none_contains c (subst (λ xs. Contains xs c) (remembered_set r lt t) m))
    | inr a ↦ elim (cases_Bool (has (to_space i.heap l) r)) [
      | inl t ↦
          let f = filter_member (is_exact j.heap r) (range_with_len 0 (j.heap.geometry.n * j.heap.geometry.w / j.heap.geometry.k)) c (subst (λ xs. Contains xs c) (rem_goal r lt a t) m) in
          let b = range_bounds 0 (j.heap.geometry.n * j.heap.geometry.w / j.heap.geometry.k) c f.0 in
          by_exact r c (omega arith) f.1
      | inr b ↦
          let f = filter_member (test r) (range_with_len 0 (i.heap.geometry.n * i.heap.geometry.w / i.heap.geometry.k)) c (subst (λ xs. Contains xs c) (rem_other r lt a b) m) in
          let g = range_bounds 0 (i.heap.geometry.n * i.heap.geometry.w / i.heap.geometry.k) c f.0 in
          let n = cards_same in
          let below : c < j.heap.geometry.n * j.heap.geometry.w / j.heap.geometry.k = omega arith in
          elim (or_cases (is_refined i r c && not (card_in i.heap set c)) (card_in i.heap (to_space i.heap l) c && is_exact j.heap r c) f.1) [
            | inl x ↦ let y = and_parts (is_refined i r c) (not (card_in i.heap set c)) x in by_refined r c lt a b below y.0 (not-true (card_in i.heap set c) y.1)
            | inr x ↦ by_exact r c below (and_parts (card_in i.heap (to_space i.heap l) c) (is_exact j.heap r c) x).1
          ]
    ]
  ]

  rising_moved : (r : ℕ) → r < i.heap.geometry.n → IsStrictlyIncreasing (remembered_of j r)
  rising_moved r lt = elim (cases_Bool (has set r)) [
    | inl t ↦ subst IsStrictlyIncreasing (sym (remembered_set r lt t)) (λ k less. absurd (omega (arith, less)))
    | inr a ↦ elim (cases_Bool (has (to_space i.heap l) r)) [
      | inl t ↦ subst IsStrictlyIncreasing (sym (rem_goal r lt a t)) (cards_rise j.heap (is_exact j.heap r))
      | inr b ↦ subst IsStrictlyIncreasing (sym (rem_other r lt a b)) (cards_rise i.heap (test r))
    ]
  ]

  few : (h : Heap) → IsBuilt h → (p : ℕ → Bool) → length (cards_where h p) < 2 ^ 32
  few h b p =
      let a = length-filter-le p (range_with_len 0 (h.geometry.n * h.geometry.w / h.geometry.k)) in
      let size = length-range_with_len 0 (h.geometry.n * h.geometry.w / h.geometry.k) in
      let less = div-le_self (h.geometry.n * h.geometry.w) h.geometry.k in
      let most = b.limits.words_most in
      omega arith

  few_moved : (r : ℕ) → r < i.heap.geometry.n → length (remembered_of j r) < 2 ^ 32
  few_moved r lt = elim (cases_Bool (has set r)) [
    | inl t ↦ subst (λ xs. length xs < 2 ^ 32) (sym (remembered_set r lt t)) (lit< tt)
    | inr a ↦ elim (cases_Bool (has (to_space i.heap l) r)) [
      | inl t ↦ subst (λ xs. length xs < 2 ^ 32) (sym (rem_goal r lt a t)) (few j.heap v (is_exact j.heap r))
      | inr b ↦ subst (λ xs. length xs < 2 ^ 32) (sym (rem_other r lt a b)) (few i.heap valid (test r))
    ]
  ]

  below_n : (r : ℕ) → r < j.heap.geometry.n → r < i.heap.geometry.n
  below_n r lt = let n = ap (λ (g : Geometry). g.n) moved.geometry in omega (arith, n)

  set_moved : (r : ℕ) → r < j.heap.geometry.n → IsRememberedSet j.heap r (remembered_of j r)
  set_moved r lt = record {
    rising = rising_moved r (below_n r lt);
    elsewhere = λ k d less. let right = right_in r (get_or (remembered_of j r) k d) (below_n r lt) (Contains-get_or (remembered_of j r) k d less) in (
      record {
        in_heap = card_starts j.heap.geometry.w j.heap.geometry.k j.heap.geometry.n (get_or (remembered_of j r) k d)
            (card_positive j.heap.geometry.w j.heap.geometry.k j.heap.geometry.n v.limits) right.0.0;
        used = right.0.1;
      },
      right.1,
    );
    count = few_moved r (below_n r lt);
    owner = λ some. let right = right_in r (get_or (remembered_of j r) 0 0) (below_n r lt) (Contains-get_or (remembered_of j r) 0 0 some) in may_hold (kind j.heap r) right.2;
  }

  pub image_moved_is : IsImage j
  image_moved_is = record {
    heap = valid_of j.heap v;
    one_each = ap length moved.remembered ∙ length-map-range_with_len (remembered_moved i set l j.heap) 0 i.heap.geometry.n ∙ sym (ap (λ (g : Geometry). g.n) moved.geometry);
    remembered = set_moved;
    log = subst (IsLog j.heap) (sym moved.log) (record { used = λ k d less. absurd (omega (arith, less)); distinct = pairs_from_ordered (λ c d. c ≢ d) [] tt; count = lit< tt });
  }

-- the image after is an image and covered
pub tracked_moved : (i : Image) (set l : List ℕ) (j : Image) → IsTracked i → HasRoom i.heap set l → IsMoved i set l j → IsTracked j
tracked_moved i set l j t room m = record {
  image = image_moved_is i set l j (built i.heap t.image.heap) room m t.image;
  covered = covered_moved i set l j (built i.heap t.image.heap) room m t.covered;
}
