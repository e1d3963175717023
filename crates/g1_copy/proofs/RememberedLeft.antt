-- Remembered sets without the cards of freed regions, region by region.
use Rattle.std.proofs.Common.{◌≡◌, ℕ, ◌+◌, ◌<◌, ◌≤◌, ◌⊎◌, inl, inr, true, false, cond, not, ◌&&◌, ◌||◌, List, [], ◌∷◌, ◌++◌, length, get_or, map, filter, set, refl, sym, ◌∙◌, ap, subst, arith, Contains}
use Rattle.std.proofs.Math.Nat.{div-lt_iff_lt-mul}
use Rattle.std.proofs.lemmas.Bool.{cases_Bool, cases_lt, false≢true}
use Rattle.std.proofs.lemmas.List.{ext_get_or, get_or-set_other, get_or-set_same, length-set}
use Rattle.std.proofs.lemmas.List.FromFn.{get_or-map-range_with_len, length-map-range_with_len}
use Rattle.g1_words.specs.Heap.{Heap, regions}
use Rattle.g1_words.specs.Layout.{HasRoom, free_regions, need, to_space}
use Rattle.g1_words.specs.Lists.{has}
use Rattle.g1_words.proofs.Firsts.{Distinct}
use Rattle.g1_words.proofs.Indices.{range_bounds}
use Rattle.g1_words.proofs.Lists.{filter_same_in}
use Rattle.g1_words.proofs.NextFit.{free_distinct}
use Rattle.g1_image.specs.Cards.{IsTracked, cards_where, exact, is_exact, is_refined}
use Rattle.g1_image.specs.Image.{Image, IsUsedCard, region_of_card, remembered_of, card_in}
use Rattle.g1_after.specs.Made.{heap_moved, image_moved, image_paused}
use Rattle.g1_after.specs.Moved.{remembered_moved}
use Rattle.g1_after.specs.Unnamed.{unnamed_regions}
use Rattle.g1_after.proofs.ValidMoved.{set_shape}
use Rattle.g1_copy.specs.Fates.{AreFates, fate_at, fate_of}
use Rattle.g1_copy.specs.Remembered.{AreLeft, cards_at, is_kept_fate, left, stays}
use Rattle.g1_copy.specs.declared.fates.Fate.{Fate}
use Rattle.g1_copy.specs.declared.fates.Fate.TheVariants.{Freed}
use Rattle.g1_copy.proofs.FatesMade.{fate_beside, fate_freed, has_fate, is_filled, is_freed, is_kept}
use Rattle.g1_copy.proofs.Ground.{Ground, ground}
use Rattle.g1_copy.proofs.InPlaceSlices.{Distinct-take}
use Rattle.g1_copy.proofs.Lists.{map_same_in}
use Rattle.g1_copy.proofs.UnnamedFirsts.{cards_used, set_is}

-- the sets of the regions below k are what is left of them, and all others are as they were
pub record LeftTo (h : Heap) (fates : List Fate) (k : ℕ) (old new : List (List ℕ)) : Type 0 where
  pub one_each : length new ≡ length old
  pub done : (r : ℕ) → r < k → cards_at new r ≡ left h fates (fate_at fates r) (cards_at old r)
  pub others : (r : ℕ) → k ≤ r → cards_at new r ≡ cards_at old r

-- before the first region
pub LeftTo-start : (h : Heap) (fates : List Fate) (old : List (List ℕ)) → LeftTo h fates 0 old old
LeftTo-start h fates old = record { one_each = refl; done = λ r lt. absurd (omega arith); others = λ r le. refl }

-- one region more
pub LeftTo-step : (h : Heap) (fates : List Fate) (k : ℕ) (old mid new : List (List ℕ)) (cards : List ℕ) → k < length old → LeftTo h fates k old mid →
    new ≡ set mid k cards → cards ≡ left h fates (fate_at fates k) (cards_at mid k)
    → LeftTo h fates (k + 1) old new
LeftTo-step h fates k old mid new cards lt before is made = record {
  one_each = ap length is ∙ length-set mid k cards ∙ before.one_each;
  done = λ r less. elim (cases_lt r k) [
    | inl below ↦ off r (λ e. absurd (omega (arith, e, below))) ∙ before.done r below
    | inr ge ↦
        let e : k ≡ r = omega arith in
        subst (λ r. cards_at new r ≡ left h fates (fate_at fates r) (cards_at old r)) e
        (ap (λ xs. get_or xs k []) is ∙ get_or-set_same mid k cards [] (omega (arith, lt, before.one_each)) ∙ made ∙ ap (left h fates (fate_at fates k)) (before.others k (omega arith)))
  ];
  others = λ r le. off r (λ e. absurd (omega (arith, e, le))) ∙ before.others r (omega arith);
} where
  off : (r : ℕ) → (r ≡ k → ⊥) → cards_at new r ≡ cards_at mid r
  off r f = ap (λ xs. get_or xs r []) is ∙ get_or-set_other mid k r cards [] f

-- all regions
pub LeftTo-end : (h : Heap) (fates : List Fate) (k : ℕ) (old new : List (List ℕ)) → length old ≤ k → LeftTo h fates k old new → AreLeft h fates old new
LeftTo-end h fates k old new le all = record { one_each = all.one_each; each = λ r lt. all.done r (omega arith) }

-- ---- of a pause

module _ (i : Image) (set l : List ℕ) (tracked : IsTracked i) (a : HasRoom i.heap set l) where
  abbrev after : Heap
  after = heap_moved i.heap set l

  abbrev freed : List ℕ
  freed = unnamed_regions (heap_moved i.heap set l)

  abbrev g : Ground i set l
  g = ground i set l tracked.image.heap a

  once : Distinct (to_space i.heap l)
  once = Distinct-take (need i.heap l) (free_regions i.heap) (free_distinct i.heap g.sound.w_positive)

  -- a card of these sets lies in no region of the set
  off_set : (r c : ℕ) → r < i.heap.geometry.n → Contains (remembered_of (image_moved i set l) r) c → has set (region_of_card i.heap c) ≡ false
  off_set r c lt k =
      let used = cards_used i set l tracked a r c lt k in
      elim (cases_Bool (has set (region_of_card i.heap c))) [
        | inr e ↦ e
        | inl t ↦ absurd (used.used (set_shape i set l (image_moved i set l) g.built a g.moved (region_of_card i.heap c) (there c used) t).0)
      ]
    where
      there : (c : ℕ) → IsUsedCard after c → region_of_card i.heap c < i.heap.geometry.n
      there c used = (div-lt_iff_lt-mul g.sound.w_positive).1 used.in_heap

  module _ (fates : List Fate) (are : AreFates i.heap (set ++ freed) (to_space i.heap l) fates) where
    -- such a card stays unless it lies in a region that is freed beside the set
    card_stays : (r c : ℕ) → r < i.heap.geometry.n → Contains (remembered_of (image_moved i set l) r) c → stays i.heap fates c ≡ not (card_in after freed c)
    card_stays r c lt k =
        let q : ℕ = region_of_card i.heap c in
        let lies : region_of_card i.heap c < i.heap.geometry.n = (div-lt_iff_lt-mul g.sound.w_positive).1 (cards_used i set l tracked a r c lt k).in_heap in
        elim (cases_Bool (has freed (region_of_card i.heap c))) [
          | inl t ↦ ap is_kept_fate (are.each q lies ∙ fate_freed set freed (to_space i.heap l) q t) ∙ ap not (sym t)
          | inr e ↦ ap is_kept_fate (are.each q lies ∙ fate_beside set freed (to_space i.heap l) q e) ∙ kept q (off_set r c lt k) ∙ ap not (sym e)
        ]
      where
        kept : (q : ℕ) → has set q ≡ false → is_kept_fate (fate_of set (to_space i.heap l) q) ≡ true
        kept q e = elim (has_fate set (to_space i.heap l) once q) [
          | is_freed t f ↦ absurd (false≢true (sym e ∙ t))
          | is_filled t less at x y f ↦ ap is_kept_fate f
          | is_kept x y f ↦ ap is_kept_fate f
        ]

    -- what is left of a region's set
    one_left : (r : ℕ) → r < i.heap.geometry.n
        → left i.heap fates (fate_at fates r) (remembered_of (image_moved i set l) r) ≡ cond (has freed r) [] (filter (λ c. not (card_in after freed c)) (remembered_of (image_moved i set l) r))
    one_left r lt = elim (cases_Bool (has freed r)) [
      | inl t ↦ ap (λ x. left i.heap fates x cards) (are.each r lt ∙ fate_freed set freed (to_space i.heap l) r t) ∙ (λ q. cond (sym t q) [] (filter (λ c. not (card_in after freed c)) cards))
      | inr e ↦ ap (λ x. left i.heap fates x cards) (are.each r lt ∙ fate_beside set freed (to_space i.heap l) r e) ∙ by_set (elim (has_fate set (to_space i.heap l) once r) [
        | is_freed t f ↦ inl (f, t)
        | is_filled t less at x y f ↦ inr (ap is_kept_fate f)
        | is_kept x y f ↦ inr (ap is_kept_fate f)
      ]) ∙ (λ q. cond (sym e q) [] (filter (λ c. not (card_in after freed c)) cards))
    ] where
      cards : List ℕ
      cards = remembered_of (image_moved i set l) r

      by_set : ((fate_of set (to_space i.heap l) r ≡ Freed) × (has set r ≡ true)) ⊎ (is_kept_fate (fate_of set (to_space i.heap l) r) ≡ true) →
          left i.heap fates (fate_of set (to_space i.heap l) r) cards ≡ filter (λ c. not (card_in after freed c)) cards
      by_set (inl (f, t)) =
          let none : cards ≡ [] = set_is i set l tracked a r lt
          ∙ (λ q. cond (t q) [] (cond (has (to_space i.heap l) r) (exact after r)
          (cards_where i.heap (λ c. (is_refined i r c && not (card_in i.heap set c)) || (card_in i.heap (to_space i.heap l) c && is_exact after r c))))) in
          ap (λ x. left i.heap fates x cards) f ∙ ap (filter (λ c. not (card_in after freed c))) (sym none)
      by_set (inr k) = ap (λ b. cond b (filter (stays i.heap fates) cards) []) k ∙ filter_same_in (stays i.heap fates) (λ c. not (card_in after freed c)) cards (λ c m. card_stays r c lt m)

    -- what is left are the sets after the pause
    pub sets_left : (old new : List (List ℕ)) → old ≡ map (remembered_moved i set l after) (regions i.heap) → AreLeft i.heap fates old new → new ≡ (image_paused i set l).remembered
    sets_left old new e all =
        let so_many : length old ≡ i.heap.geometry.n = ap length e ∙ length-map-range_with_len (remembered_moved i set l after) 0 i.heap.geometry.n in
        let size : length (image_paused i set l).remembered ≡ i.heap.geometry.n =
        length-map-range_with_len (λ r. cond (has freed r) [] (filter (λ c. not (card_in after freed c)) (remembered_of (image_moved i set l) r))) 0 i.heap.geometry.n in
        ext_get_or [] new (image_paused i set l).remembered (all.one_each ∙ so_many ∙ sym size)
        (λ r less.
        let lt : r < i.heap.geometry.n = omega (arith, less, all.one_each, so_many) in
        all.each r (omega (arith, lt, so_many)) ∙ ap (λ xs. left i.heap fates (fate_at fates r) (cards_at xs r)) e ∙ one_left r lt
        ∙ sym (get_or-map-range_with_len (λ r. cond (has freed r) [] (filter (λ c. not (card_in after freed c)) (remembered_of (image_moved i set l) r))) 0 i.heap.geometry.n r r [] lt (omega arith)))

  -- where nothing is freed beside the set they stay as they are
  pub sets_stay : length freed ≡ 0 → map (remembered_moved i set l after) (regions i.heap) ≡ (image_paused i set l).remembered
  sets_stay e =
      let none : freed ≡ [] = empty freed e in
      map_same_in (remembered_moved i set l after) (λ r. cond (has freed r) [] (filter (λ c. not (card_in after freed c)) (remembered_of (image_moved i set l) r))) (regions i.heap)
      (λ r k.
      sym (set_is i set l tracked a r (let b = range_bounds 0 i.heap.geometry.n r k in omega arith)) ∙ sym (all_pass (remembered_of (image_moved i set l) r))
      ∙ (λ q. cond (has (sym none q) r) [] (filter (λ c. not (card_in after (sym none q) c)) (remembered_of (image_moved i set l) r))))
    where
      empty : (xs : List ℕ) → length xs ≡ 0 → xs ≡ []
      empty [] e = refl
      empty (x ∷ xs) e = absurd (omega (arith, e))

      all_pass : (xs : List ℕ) → filter (λ c. true) xs ≡ xs
      all_pass [] = refl
      all_pass (x ∷ xs) = ap (λ ys. x ∷ ys) (all_pass xs)
