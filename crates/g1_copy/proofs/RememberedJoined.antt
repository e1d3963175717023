-- Lists of cards put together, region by region.
use Rattle.std.proofs.Common.{◌≡◌, ℕ, zero, suc, ◌+◌, ◌*◌, ◌/◌, ◌<◌, ◌≤◌, inl, inr, Bool, true, cond, not, ◌&&◌, ◌||◌, List, [], ◌∷◌, length, get_or, map, filter, All, Contains}
use Rattle.std.proofs.Common.{refl, sym, ◌∙◌, ap, subst, arith}
use Rattle.std.specs.Prelude.{Result, Ok, Err, IfOk}
use Rattle.std.specs.Global.{Vec}
use Rattle.std.specs.List.{range_with_len, AllZip}
use Rattle.std.specs.List.Sorted.{IsStrictlyIncreasing}
use Rattle.std.proofs.Math.Bool.{or-false}
use Rattle.std.proofs.lemmas.Bool.{or_right}
use Rattle.std.proofs.Math.Nat.{div-lt_iff_lt-mul, div-mul-le_self, mul-le-mul_right}
use Rattle.std.proofs.lemmas.List.{ext_get_or, get_or-map}
use Rattle.std.proofs.lemmas.List.FromFn.{get_or-map-range_with_len, length-map-range_with_len}
use Rattle.std.proofs.lemmas.List.Elements.{Contains-get_or}
use Rattle.g1_words.specs.declared.fault.Fault.{Fault}
use Rattle.g1_words.specs.Heap.{Heap, regions}
use Rattle.g1_words.specs.Lists.{has}
use Rattle.g1_words.specs.Layout.{free_regions, need, to_space}
use Rattle.g1_words.proofs.Members.{Contains-filter, filter_member, Contains-from_has, has_from_contains, or_true}
use Rattle.g1_words.proofs.Indices.{range_bounds}
use Rattle.g1_words.proofs.Shapes.{IsBuilt}
use Rattle.g1_words.proofs.Standing.{card_positive, width_positive}
use Rattle.g1_image.specs.Image.{Image, region_of_card, card_in}
use Rattle.g1_image.specs.Cards.{cards_where, is_exact, is_refined, refined}
use Rattle.g1_after.specs.Moved.{remembered_moved}
use Rattle.g1_after.specs.Made.{heap_moved}
use Rattle.g1_image.proofs.Covers.{cards_rise}
use Rattle.g1_rem.specs.Merging.{IsMerged}
use Rattle.g1_rem.proofs.Rising.{Rises-range, Rises-filter, Rises-one, increasing-Rises}
use Rattle.g1_copy.specs.Links.{is_linked, cards_by_region, copied_slots}
use Rattle.g1_copy.specs.Patches.{all_patches}
use Rattle.g1_copy.specs.Fates.{AreFates, fate_at, fate_of}
use Rattle.g1_copy.specs.Remembered.{is_kept_fate, stays, IsJoined, cards_at, AreSources, AreJoined}
use Rattle.g1_copy.specs.declared.fates.Fate.{Fate}
use Rattle.g1_copy.specs.declared.fates.Fate.TheVariants.{Freed, Filled, Kept}
use Rattle.g1_words.proofs.Firsts.{Distinct, filter_twice}
use Rattle.g1_words.proofs.Lists.{filter_same_in}
use Rattle.g1_words.proofs.NextFit.{free_distinct}
use Rattle.g1_copy.proofs.FatesMade.{HasFate, is_freed, is_filled, is_kept, has_fate}
use Rattle.g1_copy.proofs.Ground.{Ground}
use Rattle.g1_copy.proofs.InPlaceSlices.{Distinct-take}
use Rattle.g1_copy.proofs.RememberedLinks.{to_space_cards, copied_cards}

-- ---- cards that pass tests

-- a rising list merged with an empty one is that list
pub merged_none : (xs : List ℕ) → IsStrictlyIncreasing xs → IsMerged xs [] xs
merged_none xs rising = record { rising = rising; members = λ x. sym (or-false (has xs x)) }

-- the merge of two such lists has the cards that pass one of the tests
pub merged_where : (h : Heap) (p q : ℕ → Bool) (zs : List ℕ) → IsMerged (cards_where h p) (cards_where h q) zs → zs ≡ cards_where h (λ c. p c || q c)
merged_where h p q zs m =
    let n : ℕ = h.geometry.n * h.geometry.w / h.geometry.k in
    Rises-one 0 0 zs (cards_where h (λ c. p c || q c)) (increasing-Rises zs 0 m.rising (λ lt. omega arith))
    (Rises-filter (λ c. p c || q c) 0 (range_with_len 0 n) (Rises-range 0 n))
    (λ c k. elim (or_true (has (cards_where h p) c) (has (cards_where h q) c) (sym (m.members c) ∙ has_from_contains zs c k)) [
      | inl e ↦ let a = filter_member p (range_with_len 0 n) c (Contains-from_has (cards_where h p) c e) in Contains-filter (λ c. p c || q c) (range_with_len 0 n) c a.0 (ap (λ b. b || q c) a.1)
      | inr e ↦ let a = filter_member q (range_with_len 0 n) c (Contains-from_has (cards_where h q) c e) in Contains-filter (λ c. p c || q c) (range_with_len 0 n) c a.0 (or_right (p c) (q c) a.1)
    ])
    (λ c k.
    let a = filter_member (λ c. p c || q c) (range_with_len 0 n) c k in
    Contains-from_has zs c (m.members c ∙ elim (or_true (p c) (q c) a.1) [
      | inl e ↦ ap (λ b. b || has (cards_where h q) c) (has_from_contains (cards_where h p) c (Contains-filter p (range_with_len 0 n) c a.0 e))
      | inr e ↦ or_right (has (cards_where h p) c) (has (cards_where h q) c) (has_from_contains (cards_where h q) c (Contains-filter q (range_with_len 0 n) c a.0 e))
    ]))

-- a card lies in one of the regions
pub card_there : (h : Heap) → IsBuilt h → (c : ℕ) → c < h.geometry.n * h.geometry.w / h.geometry.k → region_of_card h c < h.geometry.n
card_there h valid c lt =
    let a = div-mul-le_self (h.geometry.n * h.geometry.w) h.geometry.k in
    let k = card_positive h.geometry.w h.geometry.k h.geometry.n valid.limits in
    let b : suc c * h.geometry.k ≤ h.geometry.n * h.geometry.w / h.geometry.k * h.geometry.k = mul-le-mul_right h.geometry.k (omega (arith, lt)) in
    (div-lt_iff_lt-mul (width_positive h.geometry.w h.geometry.k h.geometry.n valid.limits)).1 (omega arith)

-- the cards that pass a test lie in the heap's regions
pub where_there : (h : Heap) → IsBuilt h → (test : ℕ → Bool) (c : ℕ) → Contains (cards_where h test) c → region_of_card h c < h.geometry.n
where_there h valid test c k =
    let m = filter_member test (range_with_len 0 (h.geometry.n * h.geometry.w / h.geometry.k)) c k in
    let b = range_bounds 0 (h.geometry.n * h.geometry.w / h.geometry.k) c m.0 in
    card_there h valid c (omega (arith, b.1))

-- ---- one region's set

module _ (i : Image) (set l : List ℕ) (g : Ground i set l) (fates : List Fate) (are : AreFates i.heap set (to_space i.heap l) fates) where
  abbrev P : ℕ → ℕ → Bool
  P r c = is_linked i.heap (all_patches i.heap set l) r c

  abbrev C : ℕ → ℕ → Bool
  C r c = is_linked i.heap (copied_slots i.heap l) r c

  abbrev after : Heap
  after = heap_moved i.heap set l

  once : Distinct (to_space i.heap l)
  once = Distinct-take (need i.heap l) (free_regions i.heap) (free_distinct i.heap g.sound.w_positive)

  the_fate : (r : ℕ) → HasFate set (to_space i.heap l) r
  the_fate r = has_fate set (to_space i.heap l) once r

  fate_left : (r : ℕ) → is_kept_fate (fate_of set (to_space i.heap l) r) ≡ not (has set r)
  fate_left r = elim (the_fate r) [
    | is_freed a f ↦ ap is_kept_fate f ∙ ap not (sym a)
    | is_filled t lt at a b f ↦ ap is_kept_fate f ∙ ap not (sym a)
    | is_kept a b f ↦ ap is_kept_fate f ∙ ap not (sym a)
  ]

  -- a card stays that lies in no region of the set
  stays_is : (c : ℕ) → region_of_card i.heap c < i.heap.geometry.n → stays i.heap fates c ≡ not (card_in i.heap set c)
  stays_is c lt = ap is_kept_fate (are.each (region_of_card i.heap c) lt) ∙ fate_left (region_of_card i.heap c)

  kept_are : (r : ℕ) → filter (stays i.heap fates) (refined i r) ≡ cards_where i.heap (λ c. is_refined i r c && not (card_in i.heap set c))
  kept_are r =
      filter_same_in (stays i.heap fates) (λ c. not (card_in i.heap set c)) (refined i r) (λ c k. stays_is c (where_there i.heap g.built (is_refined i r) c k))
      ∙ filter_twice (λ c. not (card_in i.heap set c)) (is_refined i r) (range_with_len 0 (i.heap.geometry.n * i.heap.geometry.w / i.heap.geometry.k))

  abbrev other : ℕ → ℕ → Bool
  other r c = (is_refined i r c && not (card_in i.heap set c)) || (card_in i.heap (to_space i.heap l) c && is_exact after r c)

  filled_set : (r : ℕ) (zs : List ℕ) → has (to_space i.heap l) r ≡ true → IsMerged (cards_where i.heap (P r)) (cards_where i.heap (C r)) zs → zs ≡ cards_where i.heap (is_exact after r)
  filled_set r zs to m = merged_where i.heap (P r) (C r) zs m ∙ (λ t. cards_where i.heap (λ c. sym (to_space_cards i set l g r c to) t))

  kept_set : (r : ℕ) (zs : List ℕ) → IsMerged (filter (stays i.heap fates) (refined i r)) (cards_where i.heap (C r)) zs → zs ≡ cards_where i.heap (other r)
  kept_set r zs m =
      merged_where i.heap (λ c. is_refined i r c && not (card_in i.heap set c)) (C r) zs (subst (λ xs. IsMerged xs (cards_where i.heap (C r)) zs) (kept_are r) m)
      ∙ (λ t. cards_where i.heap (λ c. (is_refined i r c && not (card_in i.heap set c)) || sym (copied_cards i set l g r c) t))

  -- what is joined is the set after the pause
  pub remembered_moved_is : (r : ℕ) (zs : List ℕ) → r < i.heap.geometry.n →
      IsJoined i.heap fates (fate_at fates r) (refined i r) (cards_where i.heap (P r)) (cards_where i.heap (C r)) zs → zs ≡ remembered_moved i set l after r
  remembered_moved_is r zs lt m =
      let by : (x : Fate) → fate_of set (to_space i.heap l) r ≡ x → IsJoined i.heap fates x (refined i r) (cards_where i.heap (P r)) (cards_where i.heap (C r)) zs =
      λ x e. subst (λ y. IsJoined i.heap fates y (refined i r) (cards_where i.heap (P r)) (cards_where i.heap (C r)) zs) (are.each r lt ∙ e) m in
      elim (the_fate r) [
        | is_freed a f ↦ by Freed f ∙ (λ q. cond (sym a q) [] (cond (has (to_space i.heap l) r) (cards_where i.heap (is_exact after r)) (cards_where i.heap (other r))))
        | is_filled t less at a b f ↦ filled_set r zs b (by (Filled t) f) ∙ (λ q. cond (sym a q) [] (cond (sym b q) (cards_where i.heap (is_exact after r)) (cards_where i.heap (other r))))
        | is_kept a b f ↦ kept_set r zs (by Kept f) ∙ (λ q. cond (sym a q) [] (cond (sym b q) (cards_where i.heap (is_exact after r)) (cards_where i.heap (other r))))
      ]

  -- ---- all regions

  module _ (remembered outer inner : List (List ℕ)) (the_remembered : remembered ≡ map (refined i) (regions i.heap)) (the_outer : outer
      ≡ cards_by_region i.heap (all_patches i.heap set l)) (the_inner : inner ≡ cards_by_region i.heap (copied_slots i.heap l)) where
    remembered_at : (r : ℕ) → r < i.heap.geometry.n → cards_at remembered r ≡ refined i r
    remembered_at r lt = ap (λ xs. cards_at xs r) the_remembered ∙ get_or-map-range_with_len (refined i) 0 i.heap.geometry.n r r [] lt (omega arith)

    outer_at : (r : ℕ) → r < i.heap.geometry.n → cards_at outer r ≡ cards_where i.heap (P r)
    outer_at r lt = ap (λ xs. cards_at xs r) the_outer ∙ get_or-map-range_with_len (λ r. cards_where i.heap (P r)) 0 i.heap.geometry.n r r [] lt (omega arith)

    inner_at : (r : ℕ) → r < i.heap.geometry.n → cards_at inner r ≡ cards_where i.heap (C r)
    inner_at r lt = ap (λ xs. cards_at xs r) the_inner ∙ get_or-map-range_with_len (λ r. cards_where i.heap (C r)) 0 i.heap.geometry.n r r [] lt (omega arith)

    pub are_sources : AreSources i.heap fates remembered outer inner
    are_sources = record {
      fates_count = are.one_each;
      remembered_count = ap length the_remembered ∙ length-map-range_with_len (refined i) 0 i.heap.geometry.n;
      outer_count = ap length the_outer ∙ length-map-range_with_len (λ r. cards_where i.heap (P r)) 0 i.heap.geometry.n;
      inner_count = ap length the_inner ∙ length-map-range_with_len (λ r. cards_where i.heap (C r)) 0 i.heap.geometry.n;
      there = λ r lt. subst (All (λ c. region_of_card i.heap c < i.heap.geometry.n)) (sym (remembered_at r lt))
          (λ k d lt'. where_there i.heap g.built (is_refined i r) (get_or (refined i r) k d) (Contains-get_or (refined i r) k d lt'));
      remembered_rise = λ r lt. subst IsStrictlyIncreasing (sym (remembered_at r lt)) (cards_rise i.heap (is_refined i r));
      outer_rise = λ r lt. subst IsStrictlyIncreasing (sym (outer_at r lt)) (cards_rise i.heap (P r));
      inner_rise = λ r lt. subst IsStrictlyIncreasing (sym (inner_at r lt)) (cards_rise i.heap (C r));
    }

    joined_over : (r : ℕ) (zs : List ℕ) → r < i.heap.geometry.n → IsJoined i.heap fates (fate_at fates r) (cards_at remembered r) (cards_at outer r) (cards_at inner r) zs
        → IsJoined i.heap fates (fate_at fates r) (refined i r) (cards_where i.heap (P r)) (cards_where i.heap (C r)) zs
    joined_over r zs lt m =
        subst (λ xs. IsJoined i.heap fates (fate_at fates r) (refined i r) (cards_where i.heap (P r)) xs zs) (inner_at r lt)
        (subst (λ xs. IsJoined i.heap fates (fate_at fates r) (refined i r) xs (cards_at inner r) zs) (outer_at r lt)
        (subst (λ xs. IsJoined i.heap fates (fate_at fates r) xs (cards_at outer r) (cards_at inner r) zs) (remembered_at r lt) m))

    pub remembered_moved_are : (news : List (List ℕ)) → AreJoined i.heap fates remembered outer inner news → news ≡ map (remembered_moved i set l after) (regions i.heap)
    remembered_moved_are news m =
        let count = length-map-range_with_len (remembered_moved i set l after) 0 i.heap.geometry.n in
        ext_get_or [] news (map (remembered_moved i set l after) (regions i.heap)) (m.one_each ∙ sym count)
        (λ r lt'.
        let lt : r < i.heap.geometry.n = omega (arith, lt', m.one_each) in
        let one = m.each r lt in
        remembered_moved_is r (cards_at news r) lt (joined_over r (cards_at news r) lt one)
        ∙ sym (get_or-map-range_with_len (remembered_moved i set l after) 0 i.heap.geometry.n r r [] lt (omega arith)))

-- a list that was read from its vector
pub read_at : (xs : List (Vec ℕ)) (r : ℕ) (v : Vec ℕ) → r < length xs → v ≡ get_or xs r v → v.items ≡ cards_at (map (λ s. s.items) xs) r
read_at xs r v lt e = ap (λ s. s.items) e ∙ sym (get_or-map (λ s. s.items) xs r v [] lt)

-- ---- the sets of all regions

module _ (h : Heap) (fates : List Fate) (remembered outer inner : List (List ℕ)) where
  abbrev IsAt : ℕ → Vec ℕ → Type 0
  IsAt r v = IsJoined h fates (fate_at fates r) (cards_at remembered r) (cards_at outer r) (cards_at inner r) v.items

  -- what holds of each pair holds at each place
  all_at : (from n : ℕ) (ys : List (Vec ℕ)) → AllZip IsAt (range_with_len from n) ys
      → (length (map (λ s. s.items) ys) ≡ n) × ((k : ℕ) → k < n → IsJoined h fates (fate_at fates (from + k)) (cards_at remembered (from + k))
      (cards_at outer (from + k)) (cards_at inner (from + k)) (cards_at (map (λ s. s.items) ys) k))
  all_at from zero [] z = (refl, λ k lt. absurd (omega (arith, lt)))
  all_at from zero (y ∷ ys) z = absurd z
  all_at from (suc n) [] z = absurd z
  all_at from (suc n) (y ∷ ys) z =
      let rest = all_at (from + 1) n ys z.1 in
      (ap suc rest.0, λ k lt. go k lt rest.1)
    where
      go : (k : ℕ) → k < suc n
          → ((k : ℕ) → k < n → IsJoined h fates (fate_at fates (from + 1 + k)) (cards_at remembered (from + 1 + k)) (cards_at outer (from + 1 + k))
          (cards_at inner (from + 1 + k)) (cards_at (map (λ s. s.items) ys) k))
          → IsJoined h fates (fate_at fates (from + k)) (cards_at remembered (from + k)) (cards_at outer (from + k)) (cards_at inner (from + k)) (cards_at (map (λ s. s.items) (y ∷ ys)) k)
      go zero lt rest =
          let e : from ≡ from + 0 = omega arith in
          subst (λ r. IsJoined h fates (fate_at fates r) (cards_at remembered r) (cards_at outer r) (cards_at inner r) y.items) e z.0
      go (suc k) lt rest =
          let e : from + 1 + k ≡ from + suc k = omega arith in
          subst (λ r. IsJoined h fates (fate_at fates r) (cards_at remembered r) (cards_at outer r) (cards_at inner r) (cards_at (map (λ s. s.items) ys) k)) e (rest k (omega (arith, lt)))

  -- each region has its set
  pub all_joined : (ys : List (Vec ℕ)) → AllZip IsAt (regions h) ys → AreJoined h fates remembered outer inner (map (λ s. s.items) ys)
  all_joined ys z =
      let all = all_at 0 h.geometry.n ys z in
      record {
        one_each = all.0;
        each = λ r lt. let zero_more : 0 + r ≡ r = omega arith in
            subst (λ q. IsJoined h fates (fate_at fates q) (cards_at remembered q) (cards_at outer q) (cards_at inner q) (cards_at (map (λ s. s.items) ys) r)) zero_more (all.1 r lt);
      }

  -- the same of the answer for all regions
  pub joined_each : (n : ℕ) (answer : Result (Vec (Vec ℕ)) Fault) → n ≡ h.geometry.n → IfOk answer (λ v. AllZip IsAt (range_with_len 0 n) v.items)
      → IfOk answer (λ v. AreJoined h fates remembered outer inner (map (λ s. s.items) v.items))
  joined_each n (Ok v) e z = all_joined v.items (subst (λ k. AllZip IsAt (range_with_len 0 k) v.items) e z)
  joined_each n (Err fault) e z = tt
