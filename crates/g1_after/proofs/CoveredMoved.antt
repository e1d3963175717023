-- The image after is covered.
use Rattle.std.proofs.Common.{◌≡◌, ℕ, suc, ◌+◌, ◌*◌, ◌/◌, ◌<◌, ◌⊎◌, inl, inr, Bool, true, false, cond, not, ◌&&◌, ◌||◌, List, [], ◌∷◌, get_or, map, filter, flat_map, refl, sym, Contains, zero}
use Rattle.std.proofs.Common.{◌∙◌, ap, subst, arith, eqb, eq-eqb}
use Rattle.std.specs.List.{range_with_len}
use Rattle.std.proofs.lemmas.Bool.{cases_Bool, false≢true, or_cases}
use Rattle.std.proofs.lemmas.List.FromFn.{get_or-map-range_with_len}
pub use Rattle.std.proofs.lemmas.Bool.{and_from as and_both, or_right, or_left}
use Rattle.g1_after.proofs.RulesMoved.{RefMoved, before_kept, ref_moved}
use Rattle.g1_after.proofs.ToSpace.{goal_in_to_space, goal_is_free, goal_not_in_set}
use Rattle.g1_after.proofs.ValidMoved.{kept_refs, moved_below, outside_word, sound_before, survivor_word}
use Rattle.g1_image.specs.Cards.{Covered, cards_where, exact, is_covered, is_exact, is_refined, leads_into}
use Rattle.g1_image.specs.Image.{Image, remembered_of, card_in}
use Rattle.g1_after.specs.Moved.{IsMoved, remembered_moved}
use Rattle.g1_words.proofs.Bounds.{card_below, card_in_region, cards_in_region}
use Rattle.g1_words.proofs.Computed.{Contains-range}
use Rattle.g1_words.proofs.Members.{Contains-filter, Contains-first, Contains-flat_map, Contains-later, Contains-map, has_from_contains, none_contains}
use Rattle.g1_words.proofs.OneToOne.{kept_cases, outside_stays}
use Rattle.g1_words.proofs.Shapes.{IsBuilt}
use Rattle.g1_words.proofs.Standing.{card_positive}
use Rattle.g1_words.specs.Geometry.{Geometry}
use Rattle.g1_words.specs.Heap.{Heap, card_of, object_at, objects, region_of, slots, word}
use Rattle.g1_words.specs.Layout.{forward, free_regions, kept, to_space, HasRoom}
use Rattle.g1_words.specs.Lists.{has}
use Rattle.g1_words.specs.References.{Ref, named, refs, refs_at}
use Rattle.g1_words.specs.Survivors.{in_set}
use Rattle.g1_words.specs.declared.object.Object.{Object}
pub use Rattle.g1_words.proofs.Lists.{any_from_in}

-- ---- tests and lists

pub none_left : {A : Type 0} (p : A → Bool) (xs : List A) → ((x : A) → Contains xs x → p x ≡ true) → filter (λ x. not (p x)) xs ≡ []
none_left p [] f = refl
none_left p (x ∷ xs) f = (λ t. cond (not (f x (Contains-first x xs) t)) (x ∷ filter (λ x. not (p x)) xs) (filter (λ x. not (p x)) xs)) ∙ none_left p xs (λ y k. f y (Contains-later x xs y k))

-- every reference of a covered image is covered
pub covered_each : (i : Image) → Covered i → (e : Ref) → Contains (refs i.heap) e → is_covered i e ≡ true
covered_each i c e h = elim (cases_Bool (is_covered i e)) [
  | inl t ↦ t
  | inr f ↦ absurd (none_contains e.slot (subst (λ xs. Contains xs e.slot) c (Contains-map (λ (x : Ref). x.slot) (filter (λ e. not (is_covered i e)) (refs i.heap)) e
      (Contains-filter (λ (e : Ref). not (is_covered i e)) (refs i.heap) e h (ap not f)))))
]

pub exact_by : (h : Heap) (r c : ℕ) (e : Ref) → Contains (refs h) e → region_of h e.target ≡ r → eqb (region_of h e.slot) r ≡ false → card_of h e.slot ≡ c → is_exact h r c ≡ true
exact_by h r c e m a b d = any_from_in (λ e. leads_into h r e && eqb (card_of h e.slot) c) (refs h) e m
    (and_both (leads_into h r e) (eqb (card_of h e.slot) c) (and_both (eqb (region_of h e.target) r) (not (eqb (region_of h e.slot) r))
    (eq-eqb (region_of h e.target) r a) (ap not b)) (eq-eqb (card_of h e.slot) c d))

module _ (i : Image) (set l : List ℕ) (j : Image) (valid : IsBuilt i.heap) (room : HasRoom i.heap set l) (moved : IsMoved i set l j) where
  -- a word of a moved object lies in a region that isn't in the set; a survivor's in to-space
  pub moved_region : (k : Object) (m : ℕ) → Contains (kept i.heap set l) k → m < k.size
      → (region_of i.heap (forward i.heap l k.at + m) < i.heap.geometry.n) × (has set (region_of i.heap (forward i.heap l k.at + m)) ≡ false)
      × (((in_set i.heap set k.at ≡ false) × Contains (objects i.heap) k × (forward i.heap l k.at ≡ k.at)) ⊎ (has (to_space i.heap l) (region_of i.heap (forward i.heap l k.at + m)) ≡ true))
  moved_region k m c lt =
      let s = sound_before i set l j valid room moved in
      elim (kept_cases i.heap set l s room k c) [
        | inl x ↦
            let stays = outside_stays i.heap set l s room k.at x.0 in
            let u = outside_word i set l j valid room moved k m x.1 x.0 lt in
            let z : (region_of i.heap (forward i.heap l k.at + m) < i.heap.geometry.n)
            × (has set (region_of i.heap (forward i.heap l k.at + m)) ≡ false) = subst (λ y. (region_of i.heap (y + m) < i.heap.geometry.n)
            × (has set (region_of i.heap (y + m)) ≡ false)) (sym stays) (u.0, u.3) in
            (z.0, z.1, inl (x.0, x.1, stays))
        | inr x ↦
            let at : x.0 ≡ k.at = ap (λ (o : Object). o.at) x.2 in
            let u = survivor_word i set l j valid room moved x.0 m x.1 (subst (λ (o : Object). m < o.size) (sym x.2) lt) in
            let g = goal_is_free i set l j s room moved u.0 u.1 in
            let same : get_or (free_regions i.heap) u.0 0 ≡ region_of i.heap (forward i.heap l k.at + m) = sym u.2 ∙ ap (λ y. region_of i.heap (forward i.heap l y + m)) at in (
              subst (λ y. y < i.heap.geometry.n) same g.1,
              subst (λ y. has set y ≡ false) same (goal_not_in_set i set l j s room moved u.0 u.1),
              inr (subst (λ y. has (to_space i.heap l) y ≡ true) same (goal_in_to_space i set l j s room moved u.0 u.1)),
            )
      ]

  module _ (covered : Covered i) (e : Ref) (here : Contains (refs j.heap) e) (differ : eqb (e.slot / i.heap.geometry.w) (e.target / i.heap.geometry.w) ≡ false) where
    r : RefMoved i set l e
    r = ref_moved i set l j valid room moved e here

    abbrev from : ℕ
    from = e.slot / i.heap.geometry.w

    abbrev to : ℕ
    to = e.target / i.heap.geometry.w

    abbrev card : ℕ
    card = e.slot / i.heap.geometry.k

    owner_word : r.m < r.owner.size
    owner_word = let k = kept_refs i set l j valid room moved r.owner r.is_kept in let m = r.within in omega arith

    from_region : (from < i.heap.geometry.n) × (has set from ≡ false) × (((in_set i.heap set r.owner.at ≡ false) × Contains (objects i.heap) r.owner
        × (forward i.heap l r.owner.at ≡ r.owner.at)) ⊎ (has (to_space i.heap l) from ≡ true))
    from_region = subst (λ y. (y / i.heap.geometry.w < i.heap.geometry.n) × (has set (y / i.heap.geometry.w) ≡ false)
        × (((in_set i.heap set r.owner.at ≡ false) × Contains (objects i.heap) r.owner × (forward i.heap l r.owner.at ≡ r.owner.at)) ⊎ (has (to_space i.heap l) (y / i.heap.geometry.w) ≡ true))) (sym r.slot)
        (moved_region r.owner r.m r.is_kept owner_word)

    target_kept : Contains (kept i.heap set l) (object_at i.heap r.before)
    target_kept = before_kept i set l j valid room moved e r

    to_region : (to < i.heap.geometry.n) × (has set to ≡ false) × (((in_set i.heap set r.before ≡ false)
        × Contains (objects i.heap) (object_at i.heap r.before) × (forward i.heap l r.before ≡ r.before)) ⊎ (has (to_space i.heap l) to ≡ true))
    to_region =
        let z : forward i.heap l r.before + 0 ≡ e.target = omega (arith, r.moved_to) in
        let k = kept_refs i set l j valid room moved (object_at i.heap r.before) target_kept in
        subst (λ y. (y / i.heap.geometry.w < i.heap.geometry.n) × (has set (y / i.heap.geometry.w) ≡ false)
        × (((in_set i.heap set r.before ≡ false) × Contains (objects i.heap) (object_at i.heap r.before) × (forward i.heap l r.before ≡ r.before))
        ⊎ (has (to_space i.heap l) (y / i.heap.geometry.w) ≡ true))) z
        (moved_region (object_at i.heap r.before) 0 target_kept (omega arith))

    exact_moved : is_exact j.heap to card ≡ true
    exact_moved = exact_by j.heap to card e here (ap (λ y. e.target / y) (ap (λ (g : Geometry). g.w) moved.geometry))
        (ap (λ y. eqb (e.slot / y) to) (ap (λ (g : Geometry). g.w) moved.geometry) ∙ differ) (ap (λ y. e.slot / y) (ap (λ (g : Geometry). g.k) moved.geometry))

    abbrev divides : (m : ℕ) × (i.heap.geometry.w ≡ m * i.heap.geometry.k)
    divides = cards_in_region i.heap.geometry.w i.heap.geometry.k i.heap.geometry.n valid.limits

    slot_below : e.slot < i.heap.geometry.n * i.heap.geometry.w
    slot_below = let b = moved_below i set l j valid room moved r.owner r.m r.is_kept owner_word in let s = r.slot in omega arith

    card_there : card < i.heap.geometry.n * i.heap.geometry.w / i.heap.geometry.k
    card_there = card_below i.heap.geometry.w i.heap.geometry.k divides.0 i.heap.geometry.n e.slot
        (card_positive i.heap.geometry.w i.heap.geometry.k i.heap.geometry.n valid.limits) divides.1 slot_below

    card_from : card * i.heap.geometry.k / i.heap.geometry.w ≡ from
    card_from = card_in_region i.heap.geometry.w i.heap.geometry.k divides.0 e.slot (card_positive i.heap.geometry.w i.heap.geometry.k i.heap.geometry.n valid.limits) divides.1

    has_where : (test : ℕ → Bool) → test card ≡ true → has (cards_where i.heap test) card ≡ true
    has_where test t = has_from_contains (cards_where i.heap test) card (Contains-filter test
        (range_with_len 0 (i.heap.geometry.n * i.heap.geometry.w / i.heap.geometry.k)) card
        (Contains-range 0 (i.heap.geometry.n * i.heap.geometry.w / i.heap.geometry.k) card (omega arith) (let c = card_there in omega arith)) t)

    has_exact : has (exact j.heap to) card ≡ true
    has_exact =
        let same : i.heap.geometry.n * i.heap.geometry.w / i.heap.geometry.k ≡ j.heap.geometry.n * j.heap.geometry.w / j.heap.geometry.k =
        λ t. sym (ap (λ (g : Geometry). g.n) moved.geometry) t * sym (ap (λ (g : Geometry). g.w) moved.geometry) t / sym (ap (λ (g : Geometry). g.k) moved.geometry) t in
        ap (λ y. has (filter (is_exact j.heap to) (range_with_len 0 y)) card) (sym same) ∙ has_where (is_exact j.heap to) exact_moved

    refined_before : has (to_space i.heap l) to ≡ false → has (to_space i.heap l) from ≡ false → is_refined i to card ≡ true
    refined_before no_to no_from = elim from_region.2 [
      | inr t ↦ absurd (false≢true (sym no_from ∙ t))
      | inl o ↦ elim to_region.2 [
        | inr t ↦ absurd (false≢true (sym no_to ∙ t))
        | inl b ↦
            let at : e.slot ≡ r.owner.at + r.m = r.slot ∙ ap (λ y. y + r.m) o.2 in
            let goal : r.before ≡ e.target = sym b.2 ∙ r.moved_to in
            let w : word i.heap e.slot ≡ suc e.target = ap (word i.heap) at ∙ r.word_before ∙ ap suc goal in
            let a = r.above in let m = r.within in
            let k : Contains (refs_at i.heap e.slot) e = Contains-map (λ a. record { slot = e.slot; target = a }) (named (word i.heap e.slot)) e.target (subst (λ x. Contains (named x) e.target) (sym w) (zero, omega arith, refl)) in
            let there : Contains (refs i.heap) e = Contains-flat_map (λ o. flat_map (refs_at i.heap) (slots o)) (objects i.heap) r.owner e o.1
            (Contains-flat_map (refs_at i.heap) (slots r.owner) e.slot e (Contains-range (r.owner.at + 1) r.owner.refs e.slot (omega arith) (omega arith)) k) in
            let c : is_covered i e ≡ true = covered_each i covered e there in
            elim (or_cases (eqb from to || has (remembered_of i to) card) (has i.log card) c) [
              | inl x ↦ elim (or_cases (eqb from to) (has (remembered_of i to) card) x) [
                | inl y ↦ absurd (false≢true (sym differ ∙ y))
                | inr y ↦ or_left (has (remembered_of i to) card) (has i.log card && is_exact i.heap to card) y
              ]
              | inr x ↦ or_right (has (remembered_of i to) card) (has i.log card && is_exact i.heap to card)
                  (and_both (has i.log card) (is_exact i.heap to card) x (exact_by i.heap to card e there refl differ refl))
            ]
      ]
    ]

    in_new_rem : has (remembered_moved i set l j.heap to) card ≡ true
    in_new_rem = elim (cases_Bool (has (to_space i.heap l) to)) [
      | inl t ↦ (λ q. has (cond (to_region.1 q) [] (cond (t q) (exact j.heap to)
          (cards_where i.heap (λ c. (is_refined i to c && not (card_in i.heap set c)) || (card_in i.heap (to_space i.heap l) c && is_exact j.heap to c))))) card) ∙ has_exact
      | inr f ↦
          (λ q. has (cond (to_region.1 q) [] (cond (f q) (exact j.heap to) (cards_where i.heap
          (λ c. (is_refined i to c && not (card_in i.heap set c)) || (card_in i.heap (to_space i.heap l) c && is_exact j.heap to c))))) card)
          ∙ has_where (λ c. (is_refined i to c && not (card_in i.heap set c)) || (card_in i.heap (to_space i.heap l) c && is_exact j.heap to c))
          (elim (cases_Bool (has (to_space i.heap l) from)) [
            | inl t ↦ or_right (is_refined i to card && not (card_in i.heap set card)) (card_in i.heap (to_space i.heap l) card && is_exact j.heap to card)
                (and_both (card_in i.heap (to_space i.heap l) card) (is_exact j.heap to card) (ap (has (to_space i.heap l)) card_from ∙ t) exact_moved)
            | inr g ↦ or_left (is_refined i to card && not (card_in i.heap set card)) (card_in i.heap (to_space i.heap l) card && is_exact j.heap to card)
                (and_both (is_refined i to card) (not (card_in i.heap set card)) (refined_before f g) (ap not (ap (has set) card_from ∙ from_region.1)))
          ])
    ]

    rem_moved : remembered_of j to ≡ remembered_moved i set l j.heap to
    rem_moved = ap (λ xs. get_or xs to []) moved.remembered ∙ get_or-map-range_with_len (remembered_moved i set l j.heap) 0 i.heap.geometry.n to to [] to_region.0 (omega arith)

    in_rem_moved : has (remembered_of j to) card ≡ true
    in_rem_moved = ap (λ xs. has xs card) rem_moved ∙ in_new_rem

  -- each reference of the image after is covered
  each_covered : Covered i → (e : Ref) → Contains (refs j.heap) e → is_covered j e ≡ true
  each_covered c e here =
      let s : e.slot / j.heap.geometry.w ≡ e.slot / i.heap.geometry.w = ap (λ y. e.slot / y) (ap (λ (g : Geometry). g.w) moved.geometry) in
      let t : e.target / j.heap.geometry.w ≡ e.target / i.heap.geometry.w = ap (λ y. e.target / y) (ap (λ (g : Geometry). g.w) moved.geometry) in
      let k : e.slot / j.heap.geometry.k ≡ e.slot / i.heap.geometry.k = ap (λ y. e.slot / y) (ap (λ (g : Geometry). g.k) moved.geometry) in
      (λ q. (eqb (s q) (t q) || has (remembered_of j (t q)) (k q)) || has j.log (k q))
      ∙ or_left (eqb (e.slot / i.heap.geometry.w) (e.target / i.heap.geometry.w) || has (remembered_of j (e.target / i.heap.geometry.w))
      (e.slot / i.heap.geometry.k)) (has j.log (e.slot / i.heap.geometry.k))
      (elim (cases_Bool (eqb (e.slot / i.heap.geometry.w) (e.target / i.heap.geometry.w))) [
        | inl a ↦ or_left (eqb (e.slot / i.heap.geometry.w) (e.target / i.heap.geometry.w)) (has (remembered_of j (e.target / i.heap.geometry.w)) (e.slot / i.heap.geometry.k)) a
        | inr a ↦ or_right (eqb (e.slot / i.heap.geometry.w) (e.target / i.heap.geometry.w))
            (has (remembered_of j (e.target / i.heap.geometry.w)) (e.slot / i.heap.geometry.k)) (in_rem_moved c e here a)
      ])

  pub covered_moved : Covered i → Covered j
  covered_moved c = ap (map (λ (e : Ref). e.slot)) (none_left (is_covered j) (refs j.heap) (each_covered c))
