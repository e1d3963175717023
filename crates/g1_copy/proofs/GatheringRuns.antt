-- How a region of to-space is filled: survivor by survivor of its run.
use Rattle.std.proofs.Common.{◌≡◌, ℕ, ◌+◌, ◌-◌, ◌*◌, ◌/◌, ◌%◌, ◌<◌, ◌≤◌, ◌⊎◌, inl, inr, List, ◌++◌, length, get_or, map, take, drop, replicate, refl, sym, ◌∙◌, ap, subst, arith}
use Rattle.std.proofs.Common.{Contains, length-append, length-drop}
use Rattle.std.proofs.Math.Nat.{mul-le-mul_right}
use Rattle.std.proofs.lemmas.Bool.{cases_lt}
use Rattle.std.proofs.lemmas.List.{ext_get_or, get_or-append_right, get_or-drop, get_or-replicate, get_or-take, get_or_append_left, length-replicate, length-take-le}
use Rattle.std.proofs.lemmas.List.Elements.{Contains-get_or}
use borrow.Rule.Slice.PartMut.{put_mid}
use Rattle.g1_words.proofs.Sound.{w_positive}
use Rattle.g1_words.specs.Heap.{Heap, object_at, start}
use Rattle.g1_words.specs.Layout.{forward, free_regions, laid, need, places, sizes_of}
use Rattle.g1_words.specs.Valid.{IsValid}
use Rattle.g1_words.specs.Copy.{renamed_words}
use Rattle.g1_after.specs.Made.{moved_word}
use Rattle.g1_layout.proofs.Conditions.{can_lay}
use Rattle.g1_layout.proofs.Running.{count_places, fits, in_stretch, only_region, place_is, place_region, size_is, stretch_lies}
use Rattle.g1_layout.specs.Placed.{CanPlace}
use Rattle.g1_layout.specs.Plan.{Plan, laid_before, run_at}
use Rattle.g1_layout.specs.declared.plan.Run.{Run}
use Rattle.g1_copy.proofs.GatheringCopies.{IsThere, survivor_there}
use Rattle.g1_copy.proofs.GatheringWords.{get_or-placed_words, length-placed_words, placed_word, unplaced_word}
use Rattle.g1_copy.proofs.Plans.{places_of_plan}
use Rattle.g1_copy.specs.Gathered.{placed_words}
use Rattle.g1_copy.specs.Plans.{IsPlanOf}

-- ---- a part of a list written over

module _ (a n : ℕ) (xs ys : List ℕ) where
  front : a + n ≤ length xs → length (take a xs) ≡ a
  front high = length-take-le a xs (omega arith)

  pub length-put : a + n ≤ length xs → length ys ≡ n → length (put_mid a n xs ys) ≡ length xs
  length-put high len =
      let rest : List ℕ = drop n (drop a xs) in
      let x = length-append (take a xs) (ys ++ rest) in
      let y = length-append ys rest in
      let z = length-drop n (drop a xs) in
      let w = length-drop a xs in
      omega (arith, x, y, z, w, front high, high, len)

  pub get_or-put_below : (m : ℕ) → a + n ≤ length xs → m < a → get_or (put_mid a n xs ys) m 0 ≡ get_or xs m 0
  get_or-put_below m high lt = get_or_append_left (take a xs) (ys ++ drop n (drop a xs)) 0 m (omega (arith, front high)) ∙ get_or-take a xs m 0 lt

  pub get_or-put_within : (m : ℕ) → a + n ≤ length xs → length ys ≡ n → a ≤ m → m < a + n → get_or (put_mid a n xs ys) m 0 ≡ get_or ys (m - a) 0
  get_or-put_within m high len ge lt = get_or-append_right (take a xs) (ys ++ drop n (drop a xs)) a m 0 (front high) ge ∙ get_or_append_left ys (drop n (drop a xs)) 0 (m - a) (omega arith)

  pub get_or-put_above : (m : ℕ) → a + n ≤ length xs → length ys ≡ n → a + n ≤ m → get_or (put_mid a n xs ys) m 0 ≡ get_or xs m 0
  get_or-put_above m high len ge =
      let index : a + (n + (m - a - n)) ≡ m = omega arith in
      get_or-append_right (take a xs) (ys ++ drop n (drop a xs)) a m 0 (front high) (omega arith)
      ∙ get_or-append_right ys (drop n (drop a xs)) n (m - a) 0 len (omega arith)
      ∙ get_or-drop n (drop a xs) (m - a - n) 0
      ∙ get_or-drop a xs (n + (m - a - n)) 0
      ∙ ap (λ k. get_or xs k 0) index

-- ---- a region

-- a word that the survivor doesn't take
abbrev pub IsOff : Heap → List ℕ → ℕ → ℕ → Type 0
IsOff h l k q = (q < get_or (places h l) k 0) ⊎ (get_or (places h l) k 0 + (object_at h (get_or l k 0)).size ≤ q)

-- the survivors from one index up to another have been copied into region r
pub record Filling (h : Heap) (l : List ℕ) (r from i : ℕ) (words : List ℕ) : Type 0 where
  pub count : length words ≡ h.geometry.w
  pub each : (m : ℕ) → m < h.geometry.w → (get_or words m 0 ≡ moved_word (forward h l) h (map (object_at h) l) (start h r + m))
      ⊎ ((get_or words m 0 ≡ 0) × ((k : ℕ) → from ≤ k → k < i → IsOff h l k (start h r + m)))

pub Filling-start : (h : Heap) (l : List ℕ) (r from : ℕ) (words : List ℕ) → words ≡ replicate h.geometry.w 0 → Filling h l r from from words
Filling-start h l r from words e = record {
  count = ap length e ∙ length-replicate h.geometry.w 0;
  each = λ m lt. inr (ap (λ xs. get_or xs m 0) e ∙ get_or-replicate h.geometry.w m 0 0 lt, λ k ge less. absurd (omega arith));
}

module _ (h : Heap) (set l : List ℕ) (valid : IsValid h) (can : CanPlace h set l) (room : need h l ≤ length (free_regions h)) (t : ℕ) (there : t < need h l) where
  abbrev region : ℕ
  region = get_or (free_regions h) t 0

  abbrev place : ℕ → ℕ
  place k = get_or (places h l) k 0

  abbrev width : ℕ → ℕ
  width k = (object_at h (get_or l k 0)).size

  -- where a survivor stands, by the region of the row that it is laid into
  place_parts : (k : ℕ) → k < length l → (q : ℕ) × (q ≡ place k / h.geometry.w) × (q * h.geometry.w ≤ place k) × (place k + width k ≤ q * h.geometry.w + h.geometry.w) × (0 < width k)
  place_parts k lt =
      let lay = can_lay h set l valid can in
      let pos = w_positive h valid in
      let row : ℕ = get_or (laid h.geometry.w 0 (sizes_of h l)) k 0 in
      let at : place k ≡ get_or (free_regions h) (row / h.geometry.w) 0 * h.geometry.w + row % h.geometry.w = place_is h l pos lay room k lt in
      let f = fits h l pos lay room k lt in
      let s = size_is h l pos lay room k lt in
      (get_or (free_regions h) (row / h.geometry.w) 0, sym (place_region h l pos lay room k lt), omega arith, omega (arith, f.1), omega (arith, f.0))

  -- a survivor of the run stands in its region
  pub run_member : (k : ℕ) → laid_before h l t ≤ k → k < laid_before h l (t + 1) → (k < length l) × (start h region ≤ place k) × (place k + width k ≤ start h region + h.geometry.w) × (0 < width k)
  run_member k ge less =
      let lay = can_lay h set l valid can in
      let pos = w_positive h valid in
      let s = stretch_lies h l pos lay room t there k ge less in
      let p = place_parts k s.0 in
      let here : place k / h.geometry.w ≡ region = place_region h l pos lay room k s.0 ∙ ap (λ q. get_or (free_regions h) q 0) s.1 in
      let same : p.0 * h.geometry.w ≡ region * h.geometry.w = ap (λ q. q * h.geometry.w) (p.1 ∙ here) in
      (s.0, omega (arith, same, p.2), omega (arith, same, p.3), p.4)

  -- and any other takes no word of it
  pub run_other : (k m : ℕ) → k < length l → (k < laid_before h l t) ⊎ (laid_before h l (t + 1) ≤ k) → m < h.geometry.w → IsOff h l k (start h region + m)
  run_other k m lt off less =
      let lay = can_lay h set l valid can in
      let pos = w_positive h valid in
      let p = place_parts k lt in
      elim (cases_lt p.0 region) [
        | inl low ↦ let b : (p.0 + 1) * h.geometry.w ≤ region * h.geometry.w = mul-le-mul_right h.geometry.w (omega arith) in inr (omega (arith, p.3))
        | inr ge ↦ elim (cases_lt region p.0) [
          | inl high ↦ let b : (region + 1) * h.geometry.w ≤ p.0 * h.geometry.w = mul-le-mul_right h.geometry.w (omega arith) in inl (omega (arith, p.2))
          | inr le ↦
              let same : p.0 ≡ region = omega arith in
              let i = in_stretch h l pos lay room t there k lt (only_region h l pos lay room k t lt there (sym p.1 ∙ same)) in
              absurd (elim off [ inl before ↦ omega (arith, i.0) | inr after ↦ omega (arith, i.1) ])
        ]
      ]

  -- one survivor more
  pub Filling-step : (from i a n : ℕ) (words copy : List ℕ) → laid_before h l t ≤ i → i < laid_before h l (t + 1) → Filling h l region from i words
      → a ≡ place i - start h region → n ≡ width i → length copy ≡ n → copy ≡ renamed_words (forward h l) h (object_at h (get_or l i 0))
      → Filling h l region from (i + 1) (put_mid a n words copy)
  Filling-step from i a n words copy ge less f at size len is =
      let s = run_member i ge less in
      let low : start h region ≤ place i = s.1 in
      let high : a + n ≤ length words = omega (arith, s.2, f.count) in
      record {
        count = length-put a n words copy high len ∙ f.count;
        each = λ m lt. elim (cases_lt m a) [
          | inl below ↦ outside m lt (get_or-put_below a n words copy m high below) (inl (omega arith))
          | inr from_there ↦ elim (cases_lt m (a + n)) [
            | inr above ↦ outside m lt (get_or-put_above a n words copy m high len above) (inr (omega arith))
            | inl within ↦
                let word : place i + (m - a) ≡ start h region + m = omega arith in
                inl (get_or-put_within a n words copy m high len from_there within ∙ ap (λ ys. get_or ys (m - a) 0) is
                ∙ sym (placed_word h set l valid can room i (m - a) s.0 (omega arith)) ∙ ap (moved_word (forward h l) h (map (object_at h) l)) word)
          ]
        ];
      }
    where
      outside : (m : ℕ) → m < h.geometry.w → get_or (put_mid a n words copy) m 0 ≡ get_or words m 0 → IsOff h l i (start h region + m)
          → (get_or (put_mid a n words copy) m 0 ≡ moved_word (forward h l) h (map (object_at h) l) (start h region + m))
          ⊎ ((get_or (put_mid a n words copy) m 0 ≡ 0) × ((k : ℕ) → from ≤ k → k < i + 1 → IsOff h l k (start h region + m)))
      outside m lt stays gone = elim (f.each m lt) [
        | inl e ↦ inl (stays ∙ e)
        | inr e ↦ inr (
          stays ∙ e.0,
          λ k low high. elim (cases_lt k i) [
            | inl old ↦ e.1 k low old
            | inr ge' ↦ let same : i ≡ k = omega arith in subst (λ k. IsOff h l k (start h region + m)) same gone
          ],
        )
      ]

  -- with all its survivors, the region is as it should be
  pub Filling-end : (i : ℕ) (words : List ℕ) → laid_before h l (t + 1) ≤ i → Filling h l region (laid_before h l t) i words → words ≡ placed_words h l region
  Filling-end i words done f =
      ext_get_or 0 words (placed_words h l region) (f.count ∙ sym (length-placed_words h l region)) (λ m lt.
      let within : m < h.geometry.w = omega (arith, f.count) in
      elim (f.each m within) [
        | inl e ↦ e
        | inr e ↦ e.0 ∙ sym (unplaced_word h set l valid can room (start h region + m) (λ k lt. elim (cases_lt k (laid_before h l t)) [
          | inl low ↦ run_other k m lt (inl low) within
          | inr ge ↦ elim (cases_lt k (laid_before h l (t + 1))) [
            | inl less ↦ e.1 k ge (omega arith)
            | inr high ↦ run_other k m lt (inr high) within
          ]
        ]))
      ] ∙ sym (get_or-placed_words h l region m within))

-- ---- by a plan

-- the run is that of a region of to-space
abbrev pub IsRunOf : Heap → List ℕ → Run → Type 0
IsRunOf h l u = (t : ℕ) × (t < need h l) × (u ≡ run_at h l t)

-- the i-th survivor is there, and its place in the run's region has room for it
pub record IsInRun (h : Heap) (p : Plan) (u : Run) (i : ℕ) : Type 0 where
  pub index : i < length p.survivors
  pub one_each : length p.places ≡ length p.survivors
  pub survivor : Contains p.survivors (get_or p.survivors i 0)
  pub object : IsThere h (forward h p.survivors) (object_at h (get_or p.survivors i 0))
  pub low : start h u.region ≤ get_or p.places i 0
  pub high : get_or p.places i 0 + (object_at h (get_or p.survivors i 0)).size ≤ start h u.region + h.geometry.w

module _ (h : Heap) (p : Plan) (valid : IsValid h) (made : IsPlanOf h p) (u : Run) (run : IsRunOf h p.survivors u) where
  pub in_run : (i : ℕ) → u.from ≤ i → i < u.to → IsInRun h p u i
  in_run i ge less =
      let l : List ℕ = p.survivors in
      let t : ℕ = run.0 in
      let from : u.from ≡ laid_before h l t = ap (λ (u : Run). u.from) run.2 in
      let to : u.to ≡ laid_before h l (t + 1) = ap (λ (u : Run). u.to) run.2 in
      let base : start h u.region ≡ start h (get_or (free_regions h) t 0) = ap (λ (u : Run). start h u.region) run.2 in
      let m = run_member h p.set l valid made.placeable made.room t run.1 i (omega arith) (omega arith) in
      let at : get_or p.places i 0 ≡ get_or (places h l) i 0 = ap (λ ps. get_or ps i 0) (places_of_plan h p made) in
      let lay = can_lay h p.set l valid made.placeable in
      let one : Contains l (get_or l i 0) = Contains-get_or l i 0 m.0 in
      record {
        index = m.0;
        one_each = ap length (places_of_plan h p made) ∙ count_places h l (w_positive h valid) lay made.room;
        survivor = one;
        object = survivor_there h p.set l valid made.placeable made.room (object_at h (get_or l i 0)) refl one;
        low = omega (arith, m.1, at, base);
        high = omega (arith, m.2, at, base);
      }

  pub Filling-more : (i a n : ℕ) (words copy : List ℕ) → u.from ≤ i → i < u.to → Filling h p.survivors u.region u.from i words
      → a ≡ get_or p.places i 0 - start h u.region → n ≡ (object_at h (get_or p.survivors i 0)).size → length copy ≡ n
      → copy ≡ renamed_words (forward h p.survivors) h (object_at h (get_or p.survivors i 0)) → Filling h p.survivors u.region u.from (i + 1) (put_mid a n words copy)
  Filling-more i a n words copy ge less f at size len is =
      let l : List ℕ = p.survivors in
      let t : ℕ = run.0 in
      let from : u.from ≡ laid_before h l t = ap (λ (u : Run). u.from) run.2 in
      let to : u.to ≡ laid_before h l (t + 1) = ap (λ (u : Run). u.to) run.2 in
      let region : u.region ≡ get_or (free_regions h) t 0 = ap (λ (u : Run). u.region) run.2 in
      let there : a ≡ get_or (places h l) i 0 - start h (get_or (free_regions h) t 0) = at ∙ (λ k. get_or (places_of_plan h p made k) i 0 - start h (region k)) in
      subst (λ r. Filling h l r u.from (i + 1) (put_mid a n words copy)) (sym region)
      (Filling-step h p.set l valid made.placeable made.room t run.1 u.from i a n words copy (omega arith) (omega arith) (subst (λ r. Filling h l r u.from i words) region f) there size len is)

  pub Filling-all : (i : ℕ) (words : List ℕ) → u.to ≤ i → Filling h p.survivors u.region u.from i words → words ≡ placed_words h p.survivors u.region
  Filling-all i words done f =
      let l : List ℕ = p.survivors in
      let t : ℕ = run.0 in
      let from : u.from ≡ laid_before h l t = ap (λ (u : Run). u.from) run.2 in
      let to : u.to ≡ laid_before h l (t + 1) = ap (λ (u : Run). u.to) run.2 in
      let region : u.region ≡ get_or (free_regions h) t 0 = ap (λ (u : Run). u.region) run.2 in
      Filling-end h p.set l valid made.placeable made.room t run.1 i words (omega arith)
      (subst (λ n. Filling h l (get_or (free_regions h) t 0) n i words) from (subst (λ r. Filling h l r u.from i words) region f))
      ∙ ap (placed_words h l) (sym region)
