-- The slots of the survivors, as they are read from the words of to-space.
use Rattle.std.proofs.Common.{◌≡◌, ◌≢◌, ◌≤◌, ◌<◌, ℕ, zero, suc, ◌+◌, ◌-◌, ◌*◌, ◌%◌, ◌^◌, inl, inr, Bool, true, false, not, cond, List, [], ◌∷◌, ◌++◌, length, get_or, slice_index, map}
use Rattle.std.proofs.Common.{filter, flat_map, take, drop, Contains, arith, refl, sym, ap, ◌∙◌, eqb, ne_eqb, append-nil, All, subst}
use Rattle.std.specs.List.{range_with_len, slice_range}
use Rattle.std.proofs.lemmas.List.{get_or-drop, get_or-map, get_or-take, length-drop, length-map, length-take-le, map-append, take_more}
use Rattle.std.proofs.lemmas.List.Elements.{filter-append, Contains-append_cases, Contains-append_right, Contains-get_or}
use Rattle.std.proofs.lemmas.List.FromFn.{get_or-map-range_with_len, length-map-range_with_len, length-range_with_len}
use Rattle.std.proofs.lemmas.List.Sums.{count_by-le-length, length-filter}
use Rattle.std.proofs.lemmas.Grind.{flat_map-append, same_number_lists}
use Rattle.std.proofs.Math.Nat.{mul-le-mul_right}
use Rattle.std.proofs.Math.ListN.{get_or-append}
use Rattle.std.proofs.Math.Seq.{take-add}
use Rattle.g1_words.specs.Geometry.{most_words}
use Rattle.g1_words.specs.declared.object.Object.{Object}
use Rattle.g1_words.specs.Heap.{Heap, is_free, kind, object_at, regions, start, word}
use Rattle.g1_words.specs.Layout.{forward, free_regions, laid, need, places, sizes_of}
use Rattle.g1_words.specs.Valid.{IsValid}
use Rattle.g1_words.proofs.Indices.{is_free_region, range_bounds}
use Rattle.g1_words.proofs.Lists.{all_in}
use Rattle.g1_words.proofs.Members.{Contains-later, filter_member, map_cases}
use Rattle.g1_words.proofs.Sound.{w_positive}
use Rattle.g1_words.specs.Copy.{renamed, renamed_words, words_at}
use Rattle.g1_after.specs.Made.{moved_word}
use Rattle.g1_layout.proofs.Conditions.{can_lay}
use Rattle.g1_layout.proofs.Lists.{range-more}
use Rattle.g1_layout.proofs.Running.{count_places, fits, laid_before-more, place_is, size_is, stretch_lies}
use Rattle.g1_layout.proofs.Stretches.{forward_at}
use Rattle.g1_layout.specs.Placed.{CanPlace}
use Rattle.g1_layout.specs.Plan.{Plan, laid_before, run_at}
use Rattle.g1_layout.specs.declared.plan.Run.{Run}
use Rattle.g1_copy.specs.Plans.{IsPlanOf}
use Rattle.g1_copy.specs.Gathered.{placed_words, to_space_words}
use Rattle.g1_copy.specs.Filled.{filled_slots}
use Rattle.g1_copy.specs.Links.{copied_between, moved_slots}
use Rattle.g1_copy.proofs.Plans.{places_of_plan, run_is, runs_count}
use Rattle.g1_copy.proofs.CopiedSlots.{place_within, survivor_slots, slot_named, slots_before}
use Rattle.g1_copy.proofs.GatheringWords.{get_or-placed_words, get_or-to_space_words, length-placed_words, length-to_space_words, placed_word}

-- ---- the slots of one object, one by one

module _ (xs : List ℕ) (at place : ℕ) where
  abbrev filled : ℕ → Bool
  filled k = not (eqb (slice_index xs (at + k)) 0)

  abbrev slot_there : ℕ → ℕ × ℕ
  slot_there k = (place + k, slice_index xs (at + k))

  -- the first k of them
  abbrev pub first_slots : ℕ → List (ℕ × ℕ)
  first_slots k = map slot_there (filter filled (range_with_len 1 k))

  one_more : (k : ℕ) (b : Bool) → filled (1 + k) ≡ b → first_slots (k + 1) ≡ first_slots k ++ map slot_there (cond b ((1 + k) ∷ []) [])
  one_more k b e =
      ap (λ ys. map slot_there (filter filled ys)) (range-more 1 k)
      ∙ ap (map slot_there) (filter-append filled (range_with_len 1 k) ((1 + k) ∷ []))
      ∙ map-append slot_there (filter filled (range_with_len 1 k)) (cond (filled (1 + k)) ((1 + k) ∷ []) [])
      ∙ ap (λ c. first_slots k ++ map slot_there (cond c ((1 + k) ∷ []) [])) e

  -- one slot more that is null
  pub null_slot : (k : ℕ) → slice_index xs (at + k + 1) ≡ 0 → first_slots (k + 1) ≡ first_slots k
  null_slot k e =
      let next : at + (1 + k) ≡ at + k + 1 = omega arith in
      one_more k false (ap (λ i. not (eqb (slice_index xs i) 0)) next ∙ ap (λ x. not (eqb x 0)) e) ∙ append-nil (first_slots k)

  -- one that isn't
  pub filled_slot : (k : ℕ) → slice_index xs (at + k + 1) ≢ 0 → first_slots (k + 1) ≡ first_slots k ++ (place + k + 1, slice_index xs (at + k + 1)) ∷ []
  filled_slot k some =
      let next : at + (1 + k) ≡ at + k + 1 = omega arith in
      let there : place + (1 + k) ≡ place + k + 1 = omega arith in
      one_more k true (ap (λ i. not (eqb (slice_index xs i) 0)) next ∙ ap not (ne_eqb (slice_index xs (at + k + 1)) 0 some))
      ∙ (λ i. first_slots k ++ (there i, slice_index xs (next i)) ∷ [])

  -- the first k stand no higher than the k-th
  pub first_below : (before : List (ℕ × ℕ)) (k : ℕ) → All (λ x. x.0 ≤ place) before → All (λ x. x.0 ≤ place + k + 1) (before ++ first_slots k)
  first_below before k low = λ m d lt. below (get_or (before ++ first_slots k) m d) (Contains-get_or (before ++ first_slots k) m d lt) where
    below : (x : ℕ × ℕ) → Contains (before ++ first_slots k) x → x.0 ≤ place + k + 1
    below x i = elim (Contains-append_cases before (first_slots k) x i) [
      | inl old ↦ let le : x.0 ≤ place = all_in (λ (z : ℕ × ℕ). z.0 ≤ place) before x low old in omega (arith, le)
      | inr new ↦
          let m = map_cases slot_there (filter filled (range_with_len 1 k)) x new in
          let f = filter_member filled (range_with_len 1 k) m.0 m.1 in
          let at : place + m.0 ≡ x.0 = ap (λ (z : ℕ × ℕ). z.0) m.2 in
          omega (arith, at, range_bounds 1 k m.0 f.0)
    ]

-- ---- the words of a copy

-- a slot of a copy is the object's slot, renamed
renamed_slot : (f : ℕ → ℕ) (h : Heap) (o : Object) (k : ℕ) → 1 ≤ k → k ≤ o.refs → get_or (renamed_words f h o) k 0 ≡ renamed f (word h (o.at + k))
renamed_slot f h o zero low high = absurd (omega (arith, low))
renamed_slot f h o (suc j) low high =
    let count = length-map-range_with_len (word h) (o.at + 1) o.refs in
    let all = length-map (words_at h (o.at + 1) o.refs) (renamed f) in
    let next : o.at + 1 + j ≡ o.at + suc j = omega arith in
    get_or-append (map (renamed f) (words_at h (o.at + 1) o.refs)) (words_at h (o.at + 1 + o.refs) (o.size - 1 - o.refs)) 0 j (omega (arith, high, count, all))
    ∙ get_or-map (renamed f) (words_at h (o.at + 1) o.refs) j 0 0 (omega (arith, high, count))
    ∙ ap (renamed f) (get_or-map-range_with_len (word h) (o.at + 1) o.refs j (o.at + suc j) 0 (omega (arith, high)) next)

-- null stays null, and nothing else becomes null
renamed_null : (f : ℕ → ℕ) (x : ℕ) → eqb (renamed f x) 0 ≡ eqb x 0
renamed_null f zero = refl
renamed_null f (suc x) = apart (suc (f x)) (λ e. omega (arith, e)) ∙ sym (apart (suc x) (λ e. omega (arith, e))) where
  apart : (y : ℕ) → (y ≡ 0 → ⊥) → eqb y 0 ≡ false
  apart y d = ne_eqb y 0 d

-- the slots read are those told, where each word read is the word told, renamed
abbrev slots_by : (ℕ → ℕ) → ℕ → List ℕ → List (ℕ × ℕ)
slots_by g p ks = map (λ k. (p + k, g k)) ks

same_slots : (f g w : ℕ → ℕ) (p : ℕ) (ks : List ℕ) → ((k : ℕ) → Contains ks k → g k ≡ renamed f (w k))
    → slots_by g p (filter (λ k. not (eqb (g k) 0)) ks) ≡ slots_by (λ k. renamed f (w k)) p (filter (λ k. not (eqb (w k) 0)) ks)
same_slots f g w p [] same = refl
same_slots f g w p (k ∷ ks) same =
    let e : g k ≡ renamed f (w k) = same k (zero, omega arith, refl) in
    let test : not (eqb (g k) 0) ≡ not (eqb (w k) 0) = ap (λ x. not (eqb x 0)) e ∙ ap not (renamed_null f (w k)) in
    head e (not (eqb (g k) 0)) (not (eqb (w k) 0)) test (filter (λ k. not (eqb (g k) 0)) ks) (filter (λ k. not (eqb (w k) 0)) ks) (same_slots f g w p ks (λ j i. same j (Contains-later k ks j i)))
  where
    head : g k ≡ renamed f (w k) → (b c : Bool) → b ≡ c → (ys zs : List ℕ) → slots_by g p ys ≡ slots_by (λ k. renamed f (w k)) p zs
        → slots_by g p (cond b (k ∷ ys) ys) ≡ slots_by (λ k. renamed f (w k)) p (cond c (k ∷ zs) zs)
    head e true true t ys zs r = λ i. (p + k, e i) ∷ r i
    head e false false t ys zs r = r
    head e true false t ys zs r = cc
    head e false true t ys zs r = cc

-- ---- the slots before a survivor

-- the slots of the first survivors
abbrev pub first_copied : Heap → List ℕ → ℕ → List (ℕ × ℕ)
first_copied h l i = flat_map (moved_slots h l) (take i l)

module _ (h : Heap) (l : List ℕ) where
  pub between_none : (i : ℕ) → copied_between h l i i ≡ []
  between_none i = let e : i - i ≡ 0 = omega arith in ap (λ n. flat_map (moved_slots h l) (take n (drop i l))) e

  -- one survivor more
  pub between_more : (i k : ℕ) → i ≤ k → k < length l → copied_between h l i (k + 1) ≡ copied_between h l i k ++ moved_slots h l (get_or l k 0)
  between_more i k le lt =
      let rest = length-drop i l in
      let count : k + 1 - i ≡ k - i + 1 = omega (arith, le) in
      let back : i + (k - i) ≡ k = omega (arith, le) in
      ap (λ n. flat_map (moved_slots h l) (take n (drop i l))) count
      ∙ ap (flat_map (moved_slots h l)) (take_more (drop i l) (k - i) 0 (omega (arith, le, lt, rest)))
      ∙ flat_map-append (moved_slots h l) (take (k - i) (drop i l)) (get_or (drop i l) (k - i) 0 ∷ [])
      ∙ ap (λ ys. copied_between h l i k ++ ys) (append-nil (moved_slots h l (get_or (drop i l) (k - i) 0)))
      ∙ ap (λ a. copied_between h l i k ++ moved_slots h l a) (get_or-drop i l (k - i) 0 ∙ ap (λ j. get_or l j 0) back)

  -- those of the first survivors, and of the next
  pub first_between : (i j : ℕ) → i ≤ j → first_copied h l i ++ copied_between h l i j ≡ first_copied h l j
  first_between i j le =
      let whole : i + (j - i) ≡ j = omega (arith, le) in
      sym (flat_map-append (moved_slots h l) (take i l) (take (j - i) (drop i l)))
      ∙ ap (flat_map (moved_slots h l)) (sym (take-add i (j - i) l) ∙ ap (λ n. take n l) whole)

  -- a member of a stretch is one of the first
  pub between_first : (i j : ℕ) (x : ℕ × ℕ) → i ≤ j → Contains (copied_between h l i j) x → Contains (first_copied h l j) x
  between_first i j x le k = subst (λ ys. Contains ys x) (first_between i j le) (Contains-append_right (first_copied h l i) (copied_between h l i j) x k)

module _ (h : Heap) (set l : List ℕ) (valid : IsValid h) (can : CanPlace h set l) (room : need h l ≤ length (free_regions h)) where
  -- ---- the survivors of one run

  -- where the i-th survivor stands in its region
  abbrev pub offset : ℕ → ℕ
  offset i = get_or (laid h.geometry.w 0 (sizes_of h l)) i 0 % h.geometry.w

  module _ (t : ℕ) (there : t < need h l) (i : ℕ) (from : laid_before h l t ≤ i) (to : i < laid_before h l (t + 1)) where
    abbrev survivor : ℕ
    survivor = get_or l i 0

    abbrev place : ℕ
    place = get_or (places h l) i 0

    -- the words of the run's region
    abbrev words : List ℕ
    words = placed_words h l (get_or (free_regions h) t 0)

    pub in_list : i < length l
    in_list = (stretch_lies h l (w_positive h valid) (can_lay h set l valid can) room t there i from to).0

    -- its place lies in the run's region
    pub place_there : place ≡ get_or (free_regions h) t 0 * h.geometry.w + offset i
    place_there =
        let lay = can_lay h set l valid can in
        place_is h l (w_positive h valid) lay room i in_list ∙ ap (λ q. get_or (free_regions h) q 0 * h.geometry.w + offset i) (stretch_lies h l (w_positive h valid) lay room t there i from to).1

    -- and so does all of it
    pub ends_within : offset i + (object_at h survivor).size ≤ h.geometry.w
    ends_within =
        let lay = can_lay h set l valid can in
        let f = fits h l (w_positive h valid) lay room i in_list in
        let s = size_is h l (w_positive h valid) lay room i in_list in
        omega (arith, f.1, s)

    -- its words stand there, its references renamed
    word_there : (k : ℕ) → k < (object_at h survivor).size → get_or words (offset i + k) 0 ≡ get_or (renamed_words (forward h l) h (object_at h survivor)) k 0
    word_there k less =
        let p = place_there in
        let address : start h (get_or (free_regions h) t 0) + (offset i + k) ≡ place + k = omega (arith, p) in
        get_or-placed_words h l (get_or (free_regions h) t 0) (offset i + k) (omega (arith, less, ends_within))
        ∙ ap (moved_word (forward h l) h (map (object_at h) l)) address
        ∙ placed_word h set l valid can room i k in_list less

    pub some_slots : (object_at h survivor).refs < (object_at h survivor).size
    some_slots = survivor_slots h set l valid can room survivor (Contains-get_or l i 0 in_list)

    -- the header tells its references
    pub refs_there : get_or words (offset i) 0 % 2 ^ 32 ≡ (object_at h survivor).refs
    refs_there =
        let first : offset i ≡ offset i + 0 = omega arith in
        ap (λ m. get_or words m 0 % 2 ^ 32) first ∙ ap (λ x. x % 2 ^ 32) (word_there 0 (omega (arith, some_slots)))

    -- the slots read are the survivor's
    pub read_slots : filled_slots words (offset i) place ≡ moved_slots h l survivor
    read_slots =
        ap (λ n. slots_by (λ k. slice_index words (offset i + k)) place (filter (λ k. not (eqb (slice_index words (offset i + k)) 0)) (range_with_len 1 n))) refs_there
        ∙ same_slots (forward h l) (λ k. slice_index words (offset i + k)) (λ k. word h (survivor + k)) place (range_with_len 1 (object_at h survivor).refs)
        (λ k m.
        let b = range_bounds 1 (object_at h survivor).refs k m in
        word_there k (omega (arith, b.1, some_slots)) ∙ renamed_slot (forward h l) h (object_at h survivor) k b.0 (omega (arith, b.1)))
        ∙ ap (λ p. slots_by (λ k. renamed (forward h l) (word h (survivor + k))) p (filter (λ k. not (eqb (word h (survivor + k)) 0)) (range_with_len 1 (object_at h survivor).refs)))
        (sym (forward_at h set l valid can room i in_list))

    -- one survivor more
    pub run_more : (b : ℕ) → b ≤ i → copied_between h l b i ++ filled_slots words (offset i) place ≡ copied_between h l b (i + 1)
    run_more b le = ap (λ ys. copied_between h l b i ++ ys) read_slots ∙ sym (between_more h l b i le in_list)

    -- what its slots name is there
    pub named_there : (k : ℕ) → k < (object_at h survivor).refs → get_or words (offset i + k + 1) 0 ≤ h.geometry.n * h.geometry.w
    named_there k less =
        let next : offset i + k + 1 ≡ offset i + suc k = omega arith in
        let is : get_or words (offset i + k + 1) 0 ≡ renamed (forward h l) (word h (survivor + suc k)) =
        ap (λ m. get_or words m 0) next ∙ word_there (suc k) (omega (arith, less, some_slots)) ∙ renamed_slot (forward h l) h (object_at h survivor) (suc k) (omega arith) (omega (arith, less)) in
        omega (arith, is, slot_named h set l valid can room survivor (suc k) (Contains-get_or l i 0 in_list) (omega arith) (omega (arith, less)))

  -- there are no more free regions than regions
  pub need_most : need h l ≤ h.geometry.n
  need_most =
      let a = length-filter (λ r. is_free (kind h r)) (regions h) in
      let b = count_by-le-length (λ r. is_free (kind h r)) (regions h) in
      let c = length-range_with_len 0 h.geometry.n in
      omega (arith, room, a, b, c)

  -- a region of to-space is one of the heap's
  pub region_below : (t : ℕ) → t < need h l → get_or (free_regions h) t 0 < h.geometry.n
  region_below t there = (is_free_region h (get_or (free_regions h) t 0) (Contains-get_or (free_regions h) t 0 (omega (arith, there, room)))).1

  -- the words of a region end within those of to-space, which are few
  pub region_ends : (t : ℕ) → t < need h l → (t * h.geometry.w + h.geometry.w ≤ length (to_space_words h l)) × (t * h.geometry.w + h.geometry.w ≤ most_words)
  region_ends t there =
      let whole = length-to_space_words h l room in
      let rows : (t + 1) * h.geometry.w ≤ need h l * h.geometry.w = mul-le-mul_right h.geometry.w (omega (arith, there)) in
      let all : need h l * h.geometry.w ≤ h.geometry.n * h.geometry.w = mul-le-mul_right h.geometry.w need_most in
      let most = valid.limits.words_most in
      (omega (arith, whole, rows), omega (arith, rows, all, most))

  -- the words of a region of to-space
  pub region_words : (t : ℕ) → t < need h l → slice_range (to_space_words h l) (t * h.geometry.w) (t * h.geometry.w + h.geometry.w) ≡ placed_words h l (get_or (free_regions h) t 0)
  region_words t there =
      let w = h.geometry.w in
      let r = get_or (free_regions h) t 0 in
      let width : t * h.geometry.w + h.geometry.w - t * h.geometry.w ≡ h.geometry.w = omega arith in
      let rest = length-drop (t * w) (to_space_words h l) in
      let count : length (take h.geometry.w (drop (t * h.geometry.w) (to_space_words h l))) ≡ h.geometry.w =
      length-take-le w (drop (t * w) (to_space_words h l)) (omega (arith, rest, (region_ends t there).0)) in
      ap (λ n. take n (drop (t * w) (to_space_words h l))) width
      ∙ same_number_lists (take w (drop (t * w) (to_space_words h l))) (placed_words h l r) (count ∙ sym (length-placed_words h l r))
      (λ k lt.
      let less : k < h.geometry.w = omega (arith, lt, count) in
      get_or-take w (drop (t * w) (to_space_words h l)) k 0 less
      ∙ get_or-drop (t * w) (to_space_words h l) k 0
      ∙ get_or-to_space_words h l room t k there less
      ∙ sym (get_or-placed_words h l r k less))

-- ---- plans

-- the i-th survivor's slots: its words stand at an index of these, and will be at a place
pub record AreSlotsAt (h : Heap) (p : Plan) (i place : ℕ) (words : List ℕ) (at : ℕ) : Type 0 where
  pub within : at + slice_index words at % 2 ^ 32 < length words
  pub inside : place + slice_index words at % 2 ^ 32 < h.geometry.n * h.geometry.w
  pub below : place + slice_index words at % 2 ^ 32 < 2 ^ 64
  pub named : (k : ℕ) → k < slice_index words at % 2 ^ 32 → slice_index words (at + k + 1) ≤ h.geometry.n * h.geometry.w
  pub lower : (b : ℕ) → b ≤ i → All (λ x. x.0 ≤ place) (copied_between h p.survivors b i)
  pub more : (b : ℕ) → b ≤ i → copied_between h p.survivors b i ++ filled_slots words at place ≡ copied_between h p.survivors b (i + 1)

-- the survivors of a run of the plan

module _ (h : Heap) (p : Plan) (made : IsPlanOf h p) (valid : IsValid h) (u : Run) (one : Contains p.runs u) where
  can : CanPlace h p.set p.survivors
  can = made.placeable

  room : need h p.survivors ≤ length (free_regions h)
  room = made.room

  there : one.0 < need h p.survivors
  there = omega (arith, one.1, runs_count h p made)

  is : u ≡ run_at h p.survivors one.0
  is = sym one.2 ∙ run_is h p made one.0 u there

  -- the run's region is one of the heap's
  pub run_region : u.region < h.geometry.n
  run_region = let e : u.region ≡ get_or (free_regions h) one.0 0 = ap (λ (v : Run). v.region) is in omega (arith, e, region_below h p.set p.survivors valid can room one.0 there)

  -- the run doesn't end before it begins
  pub run_order : u.from ≤ u.to
  run_order =
      let a : u.from ≡ laid_before h p.survivors one.0 = ap (λ (v : Run). v.from) is in
      let b : u.to ≡ laid_before h p.survivors (one.0 + 1) = ap (λ (v : Run). v.to) is in
      omega (arith, a, b, laid_before-more h p.survivors (w_positive h valid) (can_lay h p.set p.survivors valid can) room one.0 there)

  module _ (i : ℕ) (low : u.from ≤ i) (high : i < u.to) where
    from : laid_before h p.survivors one.0 ≤ i
    from = let e : u.from ≡ laid_before h p.survivors one.0 = ap (λ (v : Run). v.from) is in omega (arith, e, low)

    to : i < laid_before h p.survivors (one.0 + 1)
    to = let e : u.to ≡ laid_before h p.survivors (one.0 + 1) = ap (λ (v : Run). v.to) is in omega (arith, e, high)

    listed : i < length p.survivors
    listed = in_list h p.set p.survivors valid can room one.0 there i from to

    -- a heap has few words, so few survivors
    pub index_small : i < most_words
    index_small = omega (arith, listed, (can_lay h p.set p.survivors valid can).few)

    -- there is a place for each survivor
    pub in_places : i < length p.places
    in_places =
        omega (arith, listed, ap length (places_of_plan h p made), count_places h p.survivors (w_positive h valid) (can_lay h p.set p.survivors valid can) room)

    module _ (place : ℕ) (place_is : place ≡ get_or p.places i 0) where
      stands : place ≡ u.region * h.geometry.w + offset h p.set p.survivors valid can room i
      stands =
          place_is ∙ ap (λ xs. get_or xs i 0) (places_of_plan h p made) ∙ place_there h p.set p.survivors valid can room one.0 there i from to
          ∙ ap (λ (v : Run). v.region * h.geometry.w + offset h p.set p.survivors valid can room i) (sym is)

      -- a place isn't below its region
      pub not_below : u.region * h.geometry.w ≤ place
      not_below = omega (arith, stands)

      module _ (words : List ℕ) (at : ℕ) (words_are : words ≡ placed_words h p.survivors u.region) (at_is : at ≡ place - u.region * h.geometry.w) where
        at_offset : at ≡ offset h p.set p.survivors valid can room i
        at_offset = omega (arith, at_is, stands)

        words_there : words ≡ placed_words h p.survivors (get_or (free_regions h) one.0 0)
        words_there = words_are ∙ ap (λ (v : Run). placed_words h p.survivors v.region) is

        refs_are : slice_index words at % 2 ^ 32 ≡ (object_at h (get_or p.survivors i 0)).refs
        refs_are = (λ j. slice_index (words_there j) (at_offset j) % 2 ^ 32) ∙ refs_there h p.set p.survivors valid can room one.0 there i from to

        -- the slots stand among the words
        slots_within : at + slice_index words at % 2 ^ 32 < length words
        slots_within =
            let count = ap length words_are ∙ length-placed_words h p.survivors u.region in
            omega (arith, at_offset, refs_are, count, some_slots h p.set p.survivors valid can room one.0 there i from to, ends_within h p.set p.survivors valid can room one.0 there i from to)

        -- and at addresses of the heap
        slots_inside : place + slice_index words at % 2 ^ 32 < h.geometry.n * h.geometry.w
        slots_inside =
            let goes = place_is ∙ ap (λ xs. get_or xs i 0) (places_of_plan h p made) ∙ sym (forward_at h p.set p.survivors valid can room i listed) in
            let ends = place_within h p.set p.survivors valid can room (get_or p.survivors i 0) (Contains-get_or p.survivors i 0 listed) in
            let some = some_slots h p.set p.survivors valid can room one.0 there i from to in
            omega (arith, refs_are, goes, ends, some)

        slots_below : place + slice_index words at % 2 ^ 32 < 2 ^ 64
        slots_below = omega (arith, slots_inside, valid.limits.words_most)

        -- what they name is there
        slots_named : (k : ℕ) → k < slice_index words at % 2 ^ 32 → slice_index words (at + k + 1) ≤ h.geometry.n * h.geometry.w
        slots_named k less =
            let is : slice_index words (at + k + 1) ≡ slice_index (placed_words h p.survivors (get_or (free_regions h) one.0 0))
            (offset h p.set p.survivors valid can room i + k + 1) = λ j. slice_index (words_there j) (at_offset j + k + 1) in
            omega (arith, is, named_there h p.set p.survivors valid can room one.0 there i from to k (omega (arith, less, refs_are)))

        -- the slots of the survivors before this one stand below it
        slots_lower : (b : ℕ) → b ≤ i → All (λ x. x.0 ≤ place) (copied_between h p.survivors b i)
        slots_lower b le =
            let goes : forward h p.survivors (get_or p.survivors i 0) ≡ place = forward_at h p.set p.survivors valid can room i listed ∙ sym (place_is ∙ ap (λ xs. get_or xs i 0) (places_of_plan h p made)) in
            let all = subst (λ q. All (λ x. x.0 ≤ q) (first_copied h p.survivors i)) goes (slots_before h p.set p.survivors valid can room i listed) in
            λ k d lt.
            let x : ℕ × ℕ = get_or (copied_between h p.survivors b i) k d in
            all_in (λ (z : ℕ × ℕ). z.0 ≤ place) (first_copied h p.survivors i) x all (between_first h p.survivors b i x le (Contains-get_or (copied_between h p.survivors b i) k d lt))

        -- one survivor more
        slots_more : (b : ℕ) → b ≤ i → copied_between h p.survivors b i ++ filled_slots words at place ≡ copied_between h p.survivors b (i + 1)
        slots_more b le =
            let goes : place ≡ get_or (places h p.survivors) i 0 = place_is ∙ ap (λ xs. get_or xs i 0) (places_of_plan h p made) in
            (λ j. copied_between h p.survivors b i ++ filled_slots (words_there j) (at_offset j) (goes j))
            ∙ run_more h p.set p.survivors valid can room one.0 there i from to b le

        pub slots_at : AreSlotsAt h p i place words at
        slots_at = record { within = slots_within; inside = slots_inside; below = slots_below; named = slots_named; lower = slots_lower; more = slots_more }
