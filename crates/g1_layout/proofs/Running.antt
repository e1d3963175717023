-- The survivors that stand in one region are a stretch of the list.
use Rattle.std.proofs.Common.{◌≡◌, ℕ, zero, suc, ◌+◌, ◌-◌, ◌*◌, ◌/◌, ◌%◌, ◌<◌, ◌≤◌, ◌⊎◌, inl, inr, Bool, true, false, cond, List, [], ◌∷◌, All, length, get_or, map, filter, fold, max, Contains}
use Rattle.std.proofs.Common.{zip, count_by, refl, sym, ◌∙◌, ap, subst, arith, eqb, eqb-true, eq-eqb, ltb, mod-lt, div-add-mod'}
use Rattle.std.proofs.lemmas.Bool.{cases_lt, lt-ltb, le-ltb, ltb-true}
use Rattle.std.proofs.lemmas.List.{get_or-map, length-map, get_or_default}
use Rattle.std.proofs.lemmas.List.Sums.{count_by-le-length, sum_by-cons}
use Rattle.std.proofs.lemmas.Nat.{le-div}
use Rattle.std.proofs.lemmas.Slice.Zip.{get_or-zip, length-zip}
use Rattle.std.proofs.Math.Nat.{div-mul-le_self, mul-le-mul_right}
use Rattle.std.proofs.lemmas.List.Elements.{Contains-get_or}
use Rattle.g1_words.specs.Geometry.{most_words}
use Rattle.g1_words.proofs.Computed.{range_below}
use Rattle.g1_words.proofs.Members.{Contains-filter, Contains-map, filter_member, map_cases}
use Rattle.g1_words.proofs.NextFit.{distinct_places, free_distinct, region_below, region_of_row, spot_below, spot_fits, spots, spots_apart}
use Rattle.g1_words.proofs.Ordered.{Ordered, Ordered-from_pairs, pairs_from_ordered}
use Rattle.g1_words.specs.Heap.{Heap, is_free, kind, object_at, region_of, regions, start}
use Rattle.g1_words.specs.Layout.{end_in, free_regions, laid, laid_end, need, next_fit, places, row_address, sizes_of}
use Rattle.g1_layout.proofs.Laying.{all_fitting}
use Rattle.g1_layout.specs.Placed.{CanLay}
use Rattle.g1_layout.specs.Plan.{laid_before, run_at}

-- ---- how many numbers of a rising list lie in regions before one

abbrev pub count_before : ℕ → ℕ → List ℕ → ℕ
count_before w t qs = count_by (λ q. ltb (q / w) t) qs

module _ (w t : ℕ) where
  count_more : (q : ℕ) (qs : List ℕ) (b : Bool) → ltb (q / w) t ≡ b → count_before w t (q ∷ qs) ≡ cond b 1 0 + count_before w t qs
  count_more q qs b e = sum_by-cons (λ x. cond (ltb (x / w) t) 1 0) q qs ∙ (λ i. cond (e i) 1 0 + count_before w t qs)

  not_before : (q : ℕ) → ltb (q / w) t ≡ false → t ≤ q / w
  not_before q e = elim (cases_lt (q / w) t) [ inl less ↦ let f : false ≡ true = sym e ∙ lt-ltb (q / w) t less in cc | inr ge ↦ ge ]

  pub none_before : (qs : List ℕ) → ((q : ℕ) → Contains qs q → t ≤ q / w) → count_before w t qs ≡ 0
  none_before [] f = refl
  none_before (q ∷ qs) f =
      let a = count_more q qs false (le-ltb (q / w) t (f q (zero, omega arith, refl))) in
      let b = none_before qs (λ x k. f x (suc k.0, omega (arith, k.1), k.2)) in
      omega arith

  before_at : (q : ℕ) (qs : List ℕ) (k : ℕ) (b : Bool) → ltb (q / w) t ≡ b → Ordered (λ x y. x / w ≤ y / w) (q ∷ qs) → k < cond b 1 0 + count_before w t qs
      → ((k : ℕ) → k < count_before w t qs → get_or qs k 0 / w < t) → get_or (q ∷ qs) k 0 / w < t
  before_at q qs zero true e o lt rest = ltb-true (q / w) t e
  before_at q qs (suc k) true e o lt rest = rest k (omega arith)
  before_at q qs k false e o lt rest =
      let here = not_before q e in
      let none = none_before qs (λ x i. let a = o.0 x i in omega arith) in
      absurd (omega arith)

  -- those counted lie before
  pub before_lies : (qs : List ℕ) (k : ℕ) → Ordered (λ x y. x / w ≤ y / w) qs → k < count_before w t qs → get_or qs k 0 / w < t
  before_lies [] k o lt = absurd (omega arith)
  before_lies (q ∷ qs) k o lt = before_at q qs k (ltb (q / w) t) refl o (subst (λ n. k < n) (count_more q qs (ltb (q / w) t) refl) lt) (λ k lt. before_lies qs k o.1 lt)

  after_at : (q : ℕ) (qs : List ℕ) (k : ℕ) (b : Bool) → ltb (q / w) t ≡ b → Ordered (λ x y. x / w ≤ y / w) (q ∷ qs) → k < suc (length qs) → cond b 1 0 + count_before w t qs ≤ k
      → ((k : ℕ) → k < length qs → count_before w t qs ≤ k → t ≤ get_or qs k 0 / w) → t ≤ get_or (q ∷ qs) k 0 / w
  after_at q qs zero true e o lt le rest = absurd (omega arith)
  after_at q qs (suc k) true e o lt le rest = rest k (omega arith) (omega arith)
  after_at q qs zero false e o lt le rest = not_before q e
  after_at q qs (suc k) false e o lt le rest = let here = not_before q e in let a = o.0 (get_or qs k 0) (Contains-get_or qs k 0 (omega arith)) in omega arith

  -- and the others don't
  pub after_lies : (qs : List ℕ) (k : ℕ) → Ordered (λ x y. x / w ≤ y / w) qs → k < length qs → count_before w t qs ≤ k → t ≤ get_or qs k 0 / w
  after_lies [] k o lt le = absurd (omega arith)
  after_lies (q ∷ qs) k o lt le = after_at q qs k (ltb (q / w) t) refl o lt (subst (λ n. n ≤ k) (count_more q qs (ltb (q / w) t) refl) le) (λ k lt le. after_lies qs k o.1 lt le)

-- ---- the greatest of a list

fold_above : (a : ℕ) (xs : List ℕ) → a ≤ fold (λ m x. max m x) a xs
fold_above a [] = omega arith
fold_above a (x ∷ xs) = let k = fold_above (max a x) xs in omega arith

fold_member : (a : ℕ) (xs : List ℕ) (x : ℕ) → Contains xs x → x ≤ fold (λ m x. max m x) a xs
fold_member a [] x h = absurd (omega (arith, h.1))
fold_member a (y ∷ xs) x (zero, b, e) = let k = fold_above (max a y) xs in omega arith
fold_member a (y ∷ xs) x (suc k, b, e) = fold_member (max a y) xs x (k, omega (arith, b), e)

fold_most : (a m : ℕ) (xs : List ℕ) → a ≤ m → ((x : ℕ) → Contains xs x → x ≤ m) → fold (λ m x. max m x) a xs ≤ m
fold_most a m [] le f = le
fold_most a m (x ∷ xs) le f = let k = f x (zero, omega arith, refl) in fold_most (max a x) m xs (omega arith) (λ y h. f y (suc h.0, omega (arith, h.1), h.2))

-- a bound of all that is one of them, or 0
pub greatest_is : (m : ℕ) (xs : List ℕ) → ((x : ℕ) → Contains xs x → x ≤ m) → (m ≡ 0) ⊎ Contains xs m → fold (λ m x. max m x) 0 xs ≡ m
greatest_is m xs f (inl e) = let a = fold_most 0 m xs (omega arith) f in omega arith
greatest_is m xs f (inr h) = let a = fold_most 0 m xs (omega arith) f in let b = fold_member 0 xs m h in omega arith

-- ---- the survivors by their index

pub length-laid : (w a : ℕ) (ss : List ℕ) → length (laid w a ss) ≡ length ss
length-laid w a [] = refl
length-laid w a (s ∷ ss) = ap suc (length-laid w (next_fit w a s + s) ss)

module _ (h : Heap) (l : List ℕ) (pos : 0 < h.geometry.w) (can : CanLay h l) (room : need h l ≤ length (free_regions h)) where
  abbrev pub row : ℕ → ℕ
  row k = get_or (laid h.geometry.w 0 (sizes_of h l)) k 0

  abbrev pub size : ℕ → ℕ
  size k = get_or (sizes_of h l) k 0

  pub count_row : length (laid h.geometry.w 0 (sizes_of h l)) ≡ length l
  count_row = length-laid h.geometry.w 0 (sizes_of h l) ∙ length-map l (λ a. (object_at h a).size)

  pub count_sizes : length (sizes_of h l) ≡ length l
  count_sizes = length-map l (λ a. (object_at h a).size)

  pub count_places : length (places h l) ≡ length l
  count_places = length-map (laid h.geometry.w 0 (sizes_of h l)) (row_address h) ∙ count_row

  pub size_is : (k : ℕ) → k < length l → size k ≡ (object_at h (get_or l k 0)).size
  size_is k lt = get_or-map (λ a. (object_at h a).size) l k 0 0 lt

  spot_in : (k : ℕ) → k < length l → Contains (spots h.geometry.w pos 0 (sizes_of h l)) (row k, size k)
  spot_in k lt =
      let qs : List ℕ = laid h.geometry.w 0 (sizes_of h l) in
      let a = count_row in
      let b = count_sizes in
      let n = length-zip qs (sizes_of h l) in
      subst (Contains (zip qs (sizes_of h l))) (get_or-zip qs (sizes_of h l) k (0, 0) (omega arith) (omega arith)) (Contains-get_or (zip qs (sizes_of h l)) k (0, 0) (omega arith))

  pub fits : (k : ℕ) → k < length l → (0 < size k) × (row k % h.geometry.w + size k ≤ h.geometry.w)
  fits k lt = spot_fits h.geometry.w pos 0 (sizes_of h l) (all_fitting h l can) (row k, size k) (spot_in k lt)

  pub needed : (k : ℕ) → k < length l → row k / h.geometry.w < need h l
  needed k lt =
      let below = spot_below h.geometry.w pos 0 (sizes_of h l) (all_fitting h l can) (row k, size k) (spot_in k lt) in
      let f = fits k lt in
      region_below h.geometry.w pos (row k) (laid_end h.geometry.w 0 (sizes_of h l)) (omega arith)

  pub row_apart : (j k : ℕ) → j < k → k < length l → row j + size j ≤ row k
  row_apart j k less lt =
      let qs : List ℕ = laid h.geometry.w 0 (sizes_of h l) in
      let a = count_row in
      let b = count_sizes in
      let n = length-zip qs (sizes_of h l) in
      let p = pairs_from_ordered (λ (x y : ℕ × ℕ). x.0 + x.1 ≤ y.0) (zip qs (sizes_of h l)) (spots_apart h.geometry.w pos 0 (sizes_of h l) (all_fitting h l can)) j k (0, 0) less (omega arith) in
      subst (λ (z : ℕ × ℕ). row j + size j ≤ z.0) (get_or-zip qs (sizes_of h l) k (0, 0) (omega arith) (omega arith))
      (subst (λ (z : ℕ × ℕ). z.0 + z.1 ≤ (get_or (zip qs (sizes_of h l)) k (0, 0)).0) (get_or-zip qs (sizes_of h l) j (0, 0) (omega arith) (omega arith)) p)

  pub rises : Ordered (λ x y. x / h.geometry.w ≤ y / h.geometry.w) (laid h.geometry.w 0 (sizes_of h l))
  rises =
      let qs : List ℕ = laid h.geometry.w 0 (sizes_of h l) in
      let a = count_row in
      Ordered-from_pairs (λ x y. x / h.geometry.w ≤ y / h.geometry.w) qs
      (λ i j d less lt.
      let r = row_apart i j less (omega arith) in
      let di : get_or qs i d ≡ row i = get_or_default qs i d 0 (omega arith) in
      let dj : get_or qs j d ≡ row j = get_or_default qs j d 0 lt in
      let m = div-mul-le_self (get_or qs i d) h.geometry.w in
      le-div (get_or qs i d / h.geometry.w) (get_or qs j d) h.geometry.w pos (omega arith))

  pub place_is : (k : ℕ) → k < length l → get_or (places h l) k 0 ≡ row_address h (row k)
  place_is k lt = let a = count_row in get_or-map (row_address h) (laid h.geometry.w 0 (sizes_of h l)) k 0 0 (omega arith)

  -- a place lies in the free region of its region in the row
  pub place_region : (k : ℕ) → k < length l → get_or (places h l) k 0 / h.geometry.w ≡ get_or (free_regions h) (row k / h.geometry.w) 0
  place_region k lt = ap (λ x. x / h.geometry.w) (place_is k lt) ∙ region_of_row h pos (row k)

  -- and in no other
  pub only_region : (k t : ℕ) → k < length l → t < need h l → get_or (places h l) k 0 / h.geometry.w ≡ get_or (free_regions h) t 0 → row k / h.geometry.w ≡ t
  only_region k t lt there e =
      let a = needed k lt in
      distinct_places (free_regions h) (row k / h.geometry.w) t 0 (free_distinct h pos) (omega arith) (omega arith) (sym (place_region k lt) ∙ e)

  place_low : (k : ℕ) → k < length l → get_or (places h l) k 0 < h.geometry.n * h.geometry.w
  place_low k lt =
      let t : ℕ = row k / h.geometry.w in
      let r : ℕ = get_or (free_regions h) t 0 in
      let a = needed k lt in
      let there = filter_member (λ r. is_free (kind h r)) (regions h) r (Contains-get_or (free_regions h) t 0 (omega arith)) in
      let below = range_below 0 h.geometry.n r there.0 in
      let rows : (r + 1) * h.geometry.w ≤ h.geometry.n * h.geometry.w = mul-le-mul_right h.geometry.w (omega arith) in
      let offset = mod-lt (row k) pos in
      let is = place_is k lt in
      omega arith

  -- places are addresses of the heap
  pub places_low : h.geometry.n * h.geometry.w ≤ most_words → All (λ p. p < most_words) (places h l)
  places_low most k d lt =
      let count = count_places in
      let is = get_or_default (places h l) k d 0 lt in
      let below = place_low k (omega arith) in
      omega arith

  module _ (t : ℕ) (there : t < need h l) where
    -- the survivors from the first to the last of region t are those that are laid there
    pub in_stretch : (k : ℕ) → k < length l → row k / h.geometry.w ≡ t → (laid_before h l t ≤ k) × (k < laid_before h l (t + 1))
    in_stretch k lt e =
        let qs : List ℕ = laid h.geometry.w 0 (sizes_of h l) in
        let n = count_row in (
          elim (cases_lt k (laid_before h l t)) [ inl less ↦ let b = before_lies h.geometry.w t qs k rises less in absurd (omega arith) | inr ge ↦ ge ],
          elim (cases_lt k (laid_before h l (t + 1))) [ inl less ↦ less | inr ge ↦ let b = after_lies h.geometry.w (t + 1) qs k rises (omega arith) ge in absurd (omega arith) ],
        )

    pub stretch_lies : (k : ℕ) → laid_before h l t ≤ k → k < laid_before h l (t + 1) → (k < length l) × (row k / h.geometry.w ≡ t)
    stretch_lies k ge lt =
        let qs : List ℕ = laid h.geometry.w 0 (sizes_of h l) in
        let n = count_row in
        let m = count_by-le-length (λ q. ltb (q / h.geometry.w) (t + 1)) qs in
        let a = after_lies h.geometry.w t qs k rises (omega arith) ge in
        let b = before_lies h.geometry.w (t + 1) qs k rises lt in
        (omega arith, omega arith)

    pub laid_before-more : laid_before h l t ≤ laid_before h l (t + 1)
    laid_before-more =
        let qs : List ℕ = laid h.geometry.w 0 (sizes_of h l) in
        elim (cases_lt (laid_before h l (t + 1)) (laid_before h l t)) [
          | inr ge ↦ ge
          | inl less ↦
              let m = count_by-le-length (λ q. ltb (q / h.geometry.w) t) qs in
              let a = after_lies h.geometry.w (t + 1) qs (laid_before h l (t + 1)) rises (omega arith) (omega arith) in
              let b = before_lies h.geometry.w t qs (laid_before h l (t + 1)) rises less in
              absurd (omega arith)
        ]

    -- where the last object of a stretch ends
    abbrev Last : ℕ → ℕ → ℕ → Type 0
    Last from to end = (to ≡ from → end ≡ 0) × ((k : ℕ) → k + 1 ≡ to → from ≤ k → end ≡ get_or (places h l) k 0 + size k - get_or (free_regions h) t 0 * h.geometry.w)

    abbrev region : ℕ
    region = get_or (free_regions h) t 0

    abbrev ends_of : List ℕ
    ends_of = map (λ x. x.0 + x.1 - start h region) (filter (λ x. eqb (region_of h x.0) region) (zip (places h l) (sizes_of h l)))

    -- a place in region t, by its offset
    place_there : (k : ℕ) → k < length l → row k / h.geometry.w ≡ t → get_or (places h l) k 0 ≡ region * h.geometry.w + row k % h.geometry.w
    place_there k lt e = place_is k lt ∙ ap (λ q. get_or (free_regions h) q 0 * h.geometry.w + row k % h.geometry.w) e

    pair_at : (x : ℕ × ℕ) → Contains (zip (places h l) (sizes_of h l)) x → (k : ℕ) × (k < length l) × (x ≡ (get_or (places h l) k 0, size k))
    pair_at x c =
        let n = length-zip (places h l) (sizes_of h l) in
        let a = count_places in
        let b = count_sizes in
        let lt : c.0 < length l = omega (arith, c.1) in
        (c.0, lt, sym c.2 ∙ get_or_default (zip (places h l) (sizes_of h l)) c.0 x (0, 0) c.1 ∙ get_or-zip (places h l) (sizes_of h l) c.0 (0, 0) (omega arith) (omega arith))

    pair_in : (k : ℕ) → k < length l → Contains (zip (places h l) (sizes_of h l)) (get_or (places h l) k 0, size k)
    pair_in k lt =
        let n = length-zip (places h l) (sizes_of h l) in
        let a = count_places in
        let b = count_sizes in
        subst (Contains (zip (places h l) (sizes_of h l))) (get_or-zip (places h l) (sizes_of h l) k (0, 0) (omega arith) (omega arith)) (Contains-get_or (zip (places h l) (sizes_of h l)) k (0, 0) (omega arith))

    below_last : (from to end : ℕ) → from ≡ laid_before h l t → to ≡ laid_before h l (t + 1) → Last from to end → (y : ℕ) → Contains ends_of y → y ≤ end
    below_last from to end f g last y i =
        let m = map_cases (λ (x : ℕ × ℕ). x.0 + x.1 - start h region) (filter (λ x. eqb (region_of h x.0) region) (zip (places h l) (sizes_of h l))) y i in
        let p = filter_member (λ (x : ℕ × ℕ). eqb (region_of h x.0) region) (zip (places h l) (sizes_of h l)) m.0 m.1 in
        let s = pair_at m.0 p.0 in
        let k : ℕ = s.0 in
        let here : get_or (places h l) k 0 / h.geometry.w ≡ region = ap (λ (x : ℕ × ℕ). x.0 / h.geometry.w) (sym s.2) ∙ eqb-true (region_of h m.0.0) region p.1 in
        let e : row k / h.geometry.w ≡ t = only_region k t s.1 there here in
        let inside = in_stretch k s.1 e in
        let is : y ≡ get_or (places h l) k 0 + size k - region * h.geometry.w = sym m.2 ∙ ap (λ (x : ℕ × ℕ). x.0 + x.1 - region * h.geometry.w) s.2 in
        let stop : ℕ = to - 1 in
        let ends : end ≡ get_or (places h l) stop 0 + size stop - region * h.geometry.w = last.1 stop (omega arith) (omega arith) in
        elim (cases_lt k stop) [
          | inl less ↦
              let there' = stretch_lies stop (omega arith) (omega arith) in
              let a = row_apart k stop less there'.0 in
              let x = place_there k s.1 e in
              let z = place_there stop there'.0 there'.1 in
              let dx : row k / h.geometry.w * h.geometry.w + row k % h.geometry.w ≡ row k = div-add-mod' (row k) h.geometry.w in
              let dz : row stop / h.geometry.w * h.geometry.w + row stop % h.geometry.w ≡ row stop = div-add-mod' (row stop) h.geometry.w in
              let rows : row k / h.geometry.w * h.geometry.w ≡ row stop / h.geometry.w * h.geometry.w = ap (λ r. r * h.geometry.w) (e ∙ sym there'.1) in
              omega arith
          | inr ge ↦ let same : k ≡ stop = omega arith in subst (λ x. x ≤ end) (sym is) (subst (λ j. get_or (places h l) j 0 + size j - region * h.geometry.w ≤ end) (sym same) (omega arith))
        ]

    pub end_is : (from to end : ℕ) → from ≡ laid_before h l t → to ≡ laid_before h l (t + 1) → from ≤ to → Last from to end → end ≡ end_in h l region
    end_is from to end f g le last = sym (greatest_is end ends_of (below_last from to end f g last) (elim (cases_lt from to) [
      | inr ge ↦ inl (last.0 (omega arith))
      | inl lt ↦
          let k : ℕ = to - 1 in
          let s = stretch_lies k (omega arith) (omega arith) in
          let ends : end ≡ get_or (places h l) k 0 + size k - region * h.geometry.w = last.1 k (omega arith) (omega arith) in
          let z : (get_or (places h l) k 0) / h.geometry.w ≡ region = place_region k s.0 ∙ ap (λ q. get_or (free_regions h) q 0) s.1 in
          inr (subst (Contains ends_of) (sym ends) (Contains-map (λ (x : ℕ × ℕ). x.0 + x.1 - start h region)
          (filter (λ x. eqb (region_of h x.0) region) (zip (places h l) (sizes_of h l))) (get_or (places h l) k 0, size k)
          (Contains-filter (λ (x : ℕ × ℕ). eqb (region_of h x.0) region) (zip (places h l) (sizes_of h l)) (get_or (places h l) k 0, size k) (pair_in k s.0)
          (eq-eqb (get_or (places h l) k 0 / h.geometry.w) region z))))
    ]))

-- a run up to the survivor at an index
pub record Running (h : Heap) (ps : List ℕ) (r from to : ℕ) : Type 0 where
  pub order : from ≤ to
  pub same : (k : ℕ) → from ≤ k → k < to → (k < length ps) × (get_or ps k 0 / h.geometry.w ≡ r)

pub Running-start : (h : Heap) (ps : List ℕ) (r from : ℕ) → Running h ps r from from
Running-start h ps r from = record {
  order = omega arith;
  same = λ k ge lt. absurd (omega arith);
}

pub Running-step : (h : Heap) (ps : List ℕ) (r from to : ℕ) → Running h ps r from to → to < length ps → get_or ps to 0 / h.geometry.w ≡ r → Running h ps r from (to + 1)
Running-step h ps r from to k lt here = record {
  order = let o = k.order in omega arith;
  same = λ j ge less. elim (cases_lt j to) [
    | inl before ↦ k.same j ge before
    | inr now ↦ let is : j ≡ to = omega arith in (omega arith, ap (λ x. get_or ps x 0 / h.geometry.w) is ∙ here)
  ];
}

-- its last survivor stands in the region
pub Running-last : (h : Heap) (ps : List ℕ) (r from to : ℕ) → Running h ps r from to → from < to → (to - 1 < length ps) × (r * h.geometry.w ≤ get_or ps (to - 1) 0)
Running-last h ps r from to k lt =
    let s = k.same (to - 1) (omega arith) (omega arith) in
    let rows : r * h.geometry.w ≡ get_or ps (to - 1) 0 / h.geometry.w * h.geometry.w = ap (λ q. q * h.geometry.w) (sym s.1) in
    let m = div-mul-le_self (get_or ps (to - 1) 0) h.geometry.w in
    (s.0, omega arith)

-- the run is whole where the next survivor stands elsewhere
pub Running-end : (h : Heap) (l ps : List ℕ) (r from to end : ℕ) → 0 < h.geometry.w → CanLay h l → need h l ≤ length (free_regions h) → ps ≡ places h l → Running h ps r from to
    → (to ≡ from → end ≡ 0)
    → (from < to → end ≡ get_or ps (to - 1) 0 + (object_at h (get_or l (to - 1) 0)).size - r * h.geometry.w)
    → (to < length ps → get_or ps to 0 / h.geometry.w ≡ r → ⊥)
    → (t : ℕ) → t < need h l → r ≡ get_or (free_regions h) t 0 → from ≡ laid_before h l t → record { region = r; from = from; to = to; end = end } ≡ run_at h l t
Running-end h l ps r from to end pos can room is k none last stop t there e f =
    let count = ap length is ∙ count_places h l pos can room in
    let o = k.order in
    let stands : (j : ℕ) → from ≤ j → j < to → (j < length l) × (get_or (laid h.geometry.w 0 (sizes_of h l)) j 0 / h.geometry.w ≡ t) =
    λ j ge lt. let s = k.same j ge lt in let n : j < length l = omega arith in (n, only_region h l pos can room j t n there (ap (λ xs. get_or xs j 0 / h.geometry.w) (sym is) ∙ s.1 ∙ e)) in
    let least : to ≤ laid_before h l (t + 1) = elim (cases_lt from to) [
      | inl lt ↦ let j : ℕ = to - 1 in let s = stands j (omega arith) (omega arith) in let i = in_stretch h l pos can room t there j s.0 s.1 in omega arith
      | inr ge ↦ let m = laid_before-more h l pos can room t there in omega arith
    ] in
    let most : laid_before h l (t + 1) ≤ to = elim (cases_lt to (laid_before h l (t + 1))) [
      | inr ge ↦ ge
      | inl lt ↦
          let s = stretch_lies h l pos can room t there to (omega arith) lt in
          absurd (stop (omega arith) (ap (λ xs. get_or xs to 0 / h.geometry.w) is ∙ place_region h l pos can room to s.0 ∙ ap (λ q. get_or (free_regions h) q 0) s.1 ∙ sym e))
    ] in
    let g : to ≡ laid_before h l (t + 1) = omega arith in
    let ends : end ≡ end_in h l (get_or (free_regions h) t 0) = end_is h l pos can room t there from to end f g o (
      none,
      λ j n ge.
          let s = stands j ge (omega arith) in
          let before : to - 1 ≡ j = omega arith in
          last (omega arith) ∙ ap (λ x. get_or ps x 0 + (object_at h (get_or l x 0)).size - r * h.geometry.w) before
          ∙ (λ i. get_or (is i) j 0 + sym (size_is h l pos can room j s.0) i - e i * h.geometry.w),
    ) in
    λ i. record { region = e i; from = f i; to = g i; end = ends i }
