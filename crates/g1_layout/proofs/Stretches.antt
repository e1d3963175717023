-- The laws of places and runs.
use Rattle.std.proofs.Common.{◌≡◌, ◌≢◌, ℕ, zero, suc, ◌+◌, ◌-◌, ◌*◌, ◌/◌, ◌%◌, ◌<◌, ◌≤◌, ◌⊎◌, inl, inr, Bool, true, false, cond, List, [], ◌∷◌, ◌++◌, length, get_or, map, filter, flat_map}
use Rattle.std.proofs.Common.{take, drop, zip, AllPairs, Contains, refl, sym, ◌∙◌, ap, subst, arith, eqb, eq-eqb, ne_eqb, ltb, mod-lt, div-add-mod'}
use Rattle.std.specs.List.{range_with_len, slice_range}
use Rattle.std.specs.List.Sorted.{IsStrictlyIncreasing}
use Rattle.std.proofs.lemmas.Bool.{cases_lt}
use Rattle.std.proofs.lemmas.List.{drop-drop, get_or_default}
use Rattle.std.proofs.lemmas.List.Concat.{flat_map-cons}
use Rattle.std.proofs.lemmas.List.Folds.{flat_map-map}
use Rattle.std.proofs.lemmas.Simd.{map-map}
use Rattle.std.proofs.lemmas.List.Sums.{count_by-le-length}
use Rattle.std.proofs.lemmas.Slice.Zip.{get_or-zip, length-zip}
use Rattle.std.proofs.Math.Nat.{mul-le-mul_right}
use Rattle.std.proofs.Math.Seq.{drop-cons, take-add, take-length}
use Rattle.g1_words.proofs.Firsts.{Distinct, Distinct-firsts}
use Rattle.g1_words.proofs.Indices.{Contains-take}
use Rattle.g1_words.proofs.Lists.{Distinct-differ}
use Rattle.g1_words.proofs.Members.{Contains-from_has}
use Rattle.g1_words.proofs.NextFit.{offset_of_row}
use Rattle.g1_words.proofs.OneToOne.{reached_in_set, reached_object}
use Rattle.g1_words.proofs.Ordered.{pairs_from_ordered}
use Rattle.g1_words.proofs.Rising.{Ordered-filter, Ordered-range}
use Rattle.g1_words.proofs.Sound.{sound, w_positive}
use Rattle.g1_words.specs.Heap.{Heap, is_free, kind, object_at, region_of, regions}
use Rattle.g1_words.specs.Layout.{forward, free_regions, laid, moved_to, need, places, sizes_of, to_space}
use Rattle.g1_words.specs.Survivors.{AllOrdinary, Survivors, children, seeds}
use Rattle.g1_words.specs.Valid.{IsValid}
use Rattle.g1_layout.proofs.Conditions.{can_lay}
use Rattle.g1_layout.proofs.Running.{after_lies, count_places, count_row, count_sizes, fits, in_stretch, laid_before-more, needed, only_region, place_is, place_region, rises, row_apart}
use Rattle.g1_layout.proofs.Running.{size_is, stretch_lies, none_before}
use Rattle.g1_layout.specs.Laws.{RunRegions, stretch}
use Rattle.g1_layout.specs.Placed.{CanPlace}
use Rattle.g1_layout.specs.Plan.{laid_before, run_at, runs}

-- ---- lists

taken : (xs : List ℕ) (a n : ℕ) → a + n ≤ length xs → map (λ t. get_or xs t 0) (range_with_len a n) ≡ take n (drop a xs)
taken xs a zero le = refl
taken xs a (suc n) le =
    let e : drop a xs ≡ get_or xs a 0 ∷ drop (suc a) xs = drop-cons xs a 0 (omega arith) in
    let m : a + 1 ≡ suc a = omega arith in
    ap (λ ys. get_or xs a 0 ∷ ys) (taken xs (a + 1) n (omega arith) ∙ ap (λ b. take n (drop b xs)) m) ∙ ap (take (suc n)) (sym e)

-- stretches that follow one another
joined : (xs : List ℕ) (i j k : ℕ) → i ≤ j → j ≤ k → slice_range xs i j ++ slice_range xs j k ≡ slice_range xs i k
joined xs i j k a b =
    let n : ℕ = j - i in
    let m : ℕ = k - j in
    let whole : n + m ≡ k - i = omega arith in
    let at : i + n ≡ j = omega arith in
    (λ t. take n (drop i xs) ++ take m (drop (sym at t) xs))
    ∙ (λ t. take n (drop i xs) ++ take m (sym (drop-drop n i xs) t))
    ∙ sym (take-add n m (drop i xs))
    ∙ ap (λ z. take z (drop i xs)) whole

module _ (c : ℕ → ℕ) (b : ℕ) (more : (t : ℕ) → t < b → c t ≤ c (t + 1)) where
  far : (a n : ℕ) → a + n ≤ b → c a ≤ c (a + n)
  far a zero le = let e : c a ≡ c (a + 0) = ap c (omega arith) in omega arith
  far a (suc n) le =
      let x = more a (omega arith) in
      let y = far (a + 1) n (omega arith) in
      let e : c (a + 1 + n) ≡ c (a + suc n) = ap c (omega arith) in
      omega arith

  stretches : (xs : List ℕ) (a n : ℕ) → a + n ≤ b → flat_map (λ t. slice_range xs (c t) (c (t + 1))) (range_with_len a n) ≡ slice_range xs (c a) (c (a + n))
  stretches xs a zero le =
      let e : c (a + 0) - c a ≡ 0 = let f : c (a + 0) ≡ c a = ap c (omega arith) in omega arith in
      ap (λ n. take n (drop (c a) xs)) (sym e)
  stretches xs a (suc n) le =
      let e : c (a + 1 + n) ≡ c (a + suc n) = ap c (omega arith) in
      flat_map-cons (λ t. slice_range xs (c t) (c (t + 1))) a (range_with_len (a + 1) n)
      ∙ ap (λ ys. slice_range xs (c a) (c (a + 1)) ++ ys) (stretches xs (a + 1) n (omega arith))
      ∙ joined xs (c a) (c (a + 1)) (c (a + 1 + n)) (more a (omega arith)) (far (a + 1) n (omega arith))
      ∙ ap (slice_range xs (c a)) e

filter_none : (n i : ℕ) → [] ≡ take {A = ℕ} n (drop i [])
filter_none zero zero = refl
filter_none (suc n) zero = refl
filter_none zero (suc i) = refl
filter_none (suc n) (suc i) = refl

-- what passes is a stretch where the places that pass are
filter_stretch : (p : ℕ → Bool) (l : List ℕ) (i n : ℕ) → ((k : ℕ) → k < length l → i ≤ k → k < i + n → p (get_or l k 0) ≡ true)
    → ((k : ℕ) → k < length l → (k < i) ⊎ (i + n ≤ k) → p (get_or l k 0) ≡ false) → filter p l ≡ take n (drop i l)
filter_stretch p [] i n f g = filter_none n i
filter_stretch p (x ∷ l) zero zero f g =
    let e : p x ≡ false = g 0 (omega arith) (inr (omega arith)) in
    (λ t. cond (e t) (x ∷ filter p l) (filter p l)) ∙ filter_stretch p l 0 0 (λ k lt ge less. absurd (omega arith)) (λ k lt c. g (suc k) (omega arith) (inr (omega arith)))
filter_stretch p (x ∷ l) zero (suc n) f g =
    let e : p x ≡ true = f 0 (omega arith) (omega arith) (omega arith) in
    (λ t. cond (e t) (x ∷ filter p l) (filter p l))
    ∙ ap (λ ys. x ∷ ys) (filter_stretch p l 0 n (λ k lt ge less. f (suc k) (omega arith) (omega arith) (omega arith))
    (λ k lt c. elim c [ inl less ↦ absurd (omega arith) | inr ge ↦ g (suc k) (omega arith) (inr (omega arith)) ]))
filter_stretch p (x ∷ l) (suc i) n f g =
    let e : p x ≡ false = g 0 (omega arith) (inl (omega arith)) in
    (λ t. cond (e t) (x ∷ filter p l) (filter p l))
    ∙ filter_stretch p l i n (λ k lt ge less. f (suc k) (omega arith) (omega arith) (omega arith))
    (λ k lt c. elim c [ inl less ↦ g (suc k) (omega arith) (inl (omega arith)) | inr ge ↦ g (suc k) (omega arith) (inr (omega arith)) ])

-- the place of the k-th survivor
pub moved_at : (l ps : List ℕ) (k : ℕ) → k < length l → length ps ≡ length l → AllPairs (λ a b. a ≢ b) l → moved_to l ps (get_or l k 0) ≡ get_or ps k 0
moved_at [] ps k lt e d = absurd (omega arith)
moved_at (x ∷ l) [] k lt e d = absurd (omega arith)
moved_at (x ∷ l) (p ∷ ps) zero lt e d = let q : eqb x x ≡ true = eq-eqb x x refl in λ t. cond (q t) p (moved_to l ps x)
moved_at (x ∷ l) (p ∷ ps) (suc k) lt e d =
    let q : eqb x (get_or l k 0) ≡ false = ne_eqb x (get_or l k 0) (d 0 (suc k) 0 (omega arith) (omega arith)) in
    (λ t. cond (q t) p (moved_to l ps (get_or l k 0))) ∙ moved_at l ps k (omega arith) (omega arith) (λ i j z less len. d (suc i) (suc j) z (omega arith) (omega arith))

-- ---- the laws

-- the survivors of a set can be placed
pub survivors_can : (h : Heap) (set l : List ℕ) → IsValid h → IsStrictlyIncreasing set → AllOrdinary h set → Survivors h set l → CanPlace h set l
survivors_can h set l valid rising ordinary survivors =
    let distinct : Distinct l = subst Distinct (sym survivors.in_order) (Distinct-firsts (seeds h set ++ flat_map (children h set) l)) in
    record {
      rising = rising;
      ordinary = ordinary;
      objects = λ k d lt. reached_object h set (sound h valid) (get_or l k d) ((survivors.reached (get_or l k d)).0 (k, lt, get_or_default l k (get_or l k d) d lt));
      in_set = λ k d lt.
          let a : ℕ = get_or l k d in
          Contains-from_has set (region_of h a) (reached_in_set h set a ((survivors.reached a).0 (k, lt, get_or_default l k a d lt)));
      distinct = pairs_from_ordered (λ a b. a ≢ b) l (Distinct-differ l distinct);
    }

pub run_regions : RunRegions
run_regions h l room = map-map (λ u. u.region) (run_at h l) (range_with_len 0 (need h l)) ∙ taken (free_regions h) 0 (need h l) (omega arith)

-- the free regions rise
pub free_rises : (h : Heap) (i j : ℕ) → i < j → j < length (free_regions h) → get_or (free_regions h) i 0 < get_or (free_regions h) j 0
free_rises h i j less lt =
    pairs_from_ordered (λ x y. x < y) (free_regions h) (Ordered-filter (λ x y. x < y) (λ r. is_free (kind h r)) (regions h) (Ordered-range 0 h.geometry.n)) i j 0 less lt

module _ (h : Heap) (set l : List ℕ) (valid : IsValid h) (can : CanPlace h set l) (room : need h l ≤ length (free_regions h)) where
  -- it is where the survivor goes
  pub forward_at : (k : ℕ) → k < length l → forward h l (get_or l k 0) ≡ get_or (places h l) k 0
  forward_at k lt = moved_at l (places h l) k lt (count_places h l (w_positive h valid) (can_lay h set l valid can) room) can.distinct

  abbrev row_of : ℕ → ℕ
  row_of k = get_or (laid h.geometry.w 0 (sizes_of h l)) k 0

  offset_at : (k : ℕ) → k < length l → get_or (places h l) k 0 % h.geometry.w ≡ row_of k % h.geometry.w
  offset_at k lt = ap (λ x. x % h.geometry.w) (place_is h l (w_positive h valid) (can_lay h set l valid can) room k lt) ∙ offset_of_row h (w_positive h valid) (row_of k)

  -- each survivor goes into a region of to-space, and ends within it
  pub within_region : (a : ℕ) → Contains l a → Contains (to_space h l) (region_of h (forward h l a)) × (forward h l a % h.geometry.w + (object_at h a).size ≤ h.geometry.w)
  within_region a c =
      let k : ℕ = c.0 in
      let lay = can_lay h set l valid can in
      let pos = w_positive h valid in
      let is : get_or l k 0 ≡ a = sym (get_or_default l k a 0 c.1) ∙ c.2 in
      let to : forward h l a ≡ get_or (places h l) k 0 = ap (forward h l) (sym is) ∙ forward_at k c.1 in
      let region : region_of h (forward h l a) ≡ get_or (free_regions h) (row_of k / h.geometry.w) 0 = ap (region_of h) to ∙ place_region h l pos lay room k c.1 in
      let below = needed h l pos lay room k c.1 in
      let f = fits h l pos lay room k c.1 in
      let offset : forward h l a % h.geometry.w ≡ row_of k % h.geometry.w = ap (λ x. x % h.geometry.w) to ∙ offset_at k c.1 in
      let size : get_or (sizes_of h l) k 0 ≡ (object_at h a).size = size_is h l pos lay room k c.1 ∙ ap (λ x. (object_at h x).size) is in (
        subst (Contains (to_space h l)) (sym region) (Contains-take (need h l) (free_regions h) (row_of k / h.geometry.w) 0 below (omega arith)),
        omega (arith, f.1, offset, size),
      )

  -- a place and its region
  place_parts : (k : ℕ) → k < length l → get_or (places h l) k 0 ≡ get_or (free_regions h) (row_of k / h.geometry.w) 0 * h.geometry.w + row_of k % h.geometry.w
  place_parts k lt = place_is h l (w_positive h valid) (can_lay h set l valid can) room k lt

  places_apart : (j k : ℕ) → j < k → k < length l → get_or (places h l) j 0 + get_or (sizes_of h l) j 0 ≤ get_or (places h l) k 0
  places_apart j k less lt =
      let lay = can_lay h set l valid can in
      let pos = w_positive h valid in
      let w = h.geometry.w in
      let n : j < length l = omega arith in
      let a = row_apart h l pos lay room j k less lt in
      let f = fits h l pos lay room j n in
      let x = place_parts j n in
      let y = place_parts k lt in
      let dx : row_of j / w * w + row_of j % w ≡ row_of j = div-add-mod' (row_of j) w in
      let dy : row_of k / w * w + row_of k % w ≡ row_of k = div-add-mod' (row_of k) w in
      elim (cases_lt (row_of j / w) (row_of k / w)) [
        | inl lower ↦
            let b = needed h l pos lay room k lt in
            let r = free_rises h (row_of j / w) (row_of k / w) lower (omega arith) in
            let rows : (get_or (free_regions h) (row_of j / w) 0 + 1) * w ≤ get_or (free_regions h) (row_of k / w) 0 * w = mul-le-mul_right w (omega arith) in
            omega (arith, f.1)
        | inr ge ↦ elim (cases_lt (row_of k / w) (row_of j / w)) [
          | inl more ↦
              let rows : (row_of k / w + 1) * w ≤ row_of j / w * w = mul-le-mul_right w (omega arith) in
              let m = mod-lt (row_of k) pos in
              absurd (omega arith)
          | inr le ↦
              let same : row_of j / w ≡ row_of k / w = omega arith in
              let rows : row_of j / w * w ≡ row_of k / w * w = ap (λ r. r * w) same in
              let regions : get_or (free_regions h) (row_of j / w) 0 * w ≡ get_or (free_regions h) (row_of k / w) 0 * w = ap (λ r. get_or (free_regions h) r 0 * w) same in
              omega arith
        ]
      ]

  pub places_rise : AllPairs (λ (x y : ℕ × ℕ). x.0 + x.1 ≤ y.0) (zip (places h l) (sizes_of h l))
  places_rise j k d less lt =
      let lay = can_lay h set l valid can in
      let pos = w_positive h valid in
      let n = length-zip (places h l) (sizes_of h l) in
      let a = count_places h l pos lay room in
      let b = count_sizes h l pos lay room in
      let p = places_apart j k less (omega arith) in
      let x = get_or-zip (places h l) (sizes_of h l) j (0, 0) (omega arith) (omega arith) in
      let y = get_or-zip (places h l) (sizes_of h l) k (0, 0) (omega arith) (omega arith) in
      let xd = get_or_default (zip (places h l) (sizes_of h l)) j d (0, 0) (omega arith) in
      let yd = get_or_default (zip (places h l) (sizes_of h l)) k d (0, 0) lt in
      subst (λ (z : ℕ × ℕ). z.0 + z.1 ≤ (get_or (zip (places h l) (sizes_of h l)) k d).0) (sym (xd ∙ x))
      (subst (λ (z : ℕ × ℕ). get_or (places h l) j 0 + get_or (sizes_of h l) j 0 ≤ z.0) (sym (yd ∙ y)) p)

  -- a run has the survivors that go into its region
  pub run_survivors : (t : ℕ) → t < need h l → stretch l (run_at h l t) ≡ filter (λ a. eqb (region_of h (forward h l a)) (get_or (free_regions h) t 0)) l
  run_survivors t there =
      let lay = can_lay h set l valid can in
      let pos = w_positive h valid in
      let from : ℕ = laid_before h l t in
      let to : ℕ = laid_before h l (t + 1) in
      let r : ℕ = get_or (free_regions h) t 0 in
      let le = laid_before-more h l pos lay room t there in
      let sum : from + (to - from) ≡ to = omega arith in
      sym (filter_stretch (λ a. eqb (region_of h (forward h l a)) r) l from (to - from)
      (λ k lt ge less.
      let s = stretch_lies h l pos lay room t there k ge (omega arith) in
      let e : region_of h (forward h l (get_or l k 0)) ≡ r = ap (region_of h) (forward_at k lt) ∙ place_region h l pos lay room k lt ∙ ap (λ q. get_or (free_regions h) q 0) s.1 in
      eq-eqb (region_of h (forward h l (get_or l k 0))) r e)
      (λ k lt c. ne_eqb (region_of h (forward h l (get_or l k 0))) r (λ e.
      let same = only_region h l pos lay room k t lt there (ap (region_of h) (sym (forward_at k lt)) ∙ e) in
      let i = in_stretch h l pos lay room t there k lt same in
      elim c [ inl less ↦ omega (arith, i.0) | inr ge ↦ omega (arith, i.1) ])))

  -- no survivor is laid before the row's first region
  pub laid_none : laid_before h l 0 ≡ 0
  laid_none = none_before h.geometry.w 0 (laid h.geometry.w 0 (sizes_of h l)) (λ q i. omega arith)

  -- and all are before the end of the last that is needed
  pub laid_all : laid_before h l (need h l) ≡ length l
  laid_all =
      let lay = can_lay h set l valid can in
      let pos = w_positive h valid in
      let qs : List ℕ = laid h.geometry.w 0 (sizes_of h l) in
      let n = count_row h l pos lay room in
      let m = count_by-le-length (λ q. ltb (q / h.geometry.w) (need h l)) qs in
      elim (cases_lt (laid_before h l (need h l)) (length l)) [
        | inr ge ↦ omega arith
        | inl lt ↦
            let a = after_lies h.geometry.w (need h l) qs (laid_before h l (need h l)) (rises h l pos lay room) (omega arith) (omega arith) in
            let b = needed h l pos lay room (laid_before h l (need h l)) lt in
            absurd (omega arith)
      ]

  -- the runs have all survivors, in their order
  pub runs_in_order : flat_map (stretch l) (runs h l) ≡ l
  runs_in_order =
      let lay = can_lay h set l valid can in
      let all : 0 + need h l ≡ need h l = omega arith in
      let whole : length l - 0 ≡ length l = omega arith in
      let last : laid_before h l (0 + need h l) ≡ length l = ap (laid_before h l) all ∙ laid_all in
      flat_map-map (stretch l) (run_at h l) (range_with_len 0 (need h l))
      ∙ stretches (laid_before h l) (need h l) (λ t lt. laid_before-more h l (w_positive h valid) lay room t lt) l 0 (need h l) (omega arith)
      ∙ (λ i. slice_range l (laid_none i) (last i))
      ∙ ap (λ n. take n l) whole
      ∙ take-length l
