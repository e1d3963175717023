-- The cards of copied slots, listed part by part of the runs.
use Rattle.std.proofs.Common.{◌≡◌, ◌≤◌, ◌<◌, ℕ, zero, suc, ◌+◌, ◌-◌, ◌*◌, ◌/◌, ◌%◌, Bool, true, false, cond, ◌||◌, ◌&&◌, inl, inr, List, [], ◌∷◌, ◌++◌, map, filter, flat_map, Contains}
use Rattle.std.proofs.Common.{length, get_or, take, drop, set, min, replicate, arith, refl, sym, ap, subst, ◌∙◌, eqb, eqb-true, div-add-mod'}
use Rattle.std.specs.List.{range_with_len}
use Rattle.std.proofs.lemmas.Bool.{cases_lt}
use Rattle.std.proofs.lemmas.List.{get_or-drop, get_or-set_other, get_or-set_same, get_or_default, get_or-take, length-drop, length-take}
use Rattle.std.proofs.lemmas.List.Folds.{list_any-append}
use Rattle.std.proofs.lemmas.List.FromFn.{get_or-map-range_with_len}
use Rattle.std.proofs.Math.Nat.{le-div_iff_mul-le, div-lt_iff_lt-mul, mul-le-mul_right}
use Rattle.std.proofs.Math.Seq.{take-length}
use Rattle.std.proofs.lemmas.List.Elements.{Contains-get_or}
use Rattle.g1_words.specs.Heap.{Heap, card_of, region_of}
use Rattle.g1_words.specs.Layout.{forward, free_regions, laid, need, sizes_of}
use Rattle.g1_words.specs.Valid.{IsValid}
use Rattle.g1_words.proofs.Bounds.{cards_in_region}
use Rattle.g1_words.proofs.Indices.{range_bounds}
use Rattle.g1_words.proofs.Lists.{filter_same_in, none_passes}
use Rattle.g1_words.proofs.Members.{and_true, any_member, flat_map_cases}
use Rattle.g1_words.proofs.Sound.{k_positive, w_positive}
use Rattle.g1_image.specs.Cards.{cards_where, leads_into}
use Rattle.g1_layout.proofs.Conditions.{can_lay}
use Rattle.g1_layout.proofs.Running.{after_lies, before_lies, count_row, laid_before-more, needed, place_region, rises}
use Rattle.g1_layout.proofs.Stretches.{forward_at, free_rises, laid_all, laid_none, within_region}
use Rattle.g1_layout.specs.Placed.{CanPlace}
use Rattle.g1_layout.specs.Plan.{Plan, laid_before}
use Rattle.g1_copy.specs.Links.{cards_by_region, copied_between, copied_slots, is_linked, link, moved_slots, part_cards, runs_before}
use Rattle.g1_copy.specs.Plans.{IsPlanOf}
use Rattle.g1_copy.proofs.CopiedSlots.{moved_slot, survivor_slots}
use Rattle.g1_copy.proofs.CopiedWords.{first_between, first_copied}
use Rattle.g1_copy.proofs.Plans.{runs_count}

-- ---- two tests over a range

module _ (p q : ℕ → Bool) (apart : (c d : ℕ) → p c ≡ true → q d ≡ true → c < d) where
  abbrev either : ℕ → Bool
  either c = p c || q c

  -- what passes one of them, where all that passes the first stands before all that passes the second
  pub split_filter : (a n : ℕ) → filter either (range_with_len a n) ≡ filter p (range_with_len a n) ++ filter q (range_with_len a n)
  split_filter a zero = refl
  split_filter a (suc n) = head (split_filter (a + 1) n) (p a) (q a) refl refl where
    none : q a ≡ true → filter p (range_with_len (a + 1) n) ≡ []
    none e = none_passes p (range_with_len (a + 1) n) (λ c i. never c i (p c) refl) where
      never : (c : ℕ) → Contains (range_with_len (a + 1) n) c → (b : Bool) → p c ≡ b → b ≡ false
      never c i true f = let less = apart c a f e in absurd (omega (arith, less, range_bounds (a + 1) n c i))
      never c i false f = refl

    ends : (b c : Bool) → p a ≡ b → q a ≡ c → cond (b || c) (a ∷ (filter p (range_with_len (a + 1) n) ++ filter q (range_with_len (a + 1) n))) (filter p (range_with_len (a + 1) n) ++ filter q (range_with_len (a + 1) n))
        ≡ cond b (a ∷ filter p (range_with_len (a + 1) n)) (filter p (range_with_len (a + 1) n)) ++ cond c (a ∷ filter q (range_with_len (a + 1) n)) (filter q (range_with_len (a + 1) n))
    ends true true e f = let less = apart a a e f in absurd (omega (arith, less))
    ends true false e f = refl
    ends false true e f = ap (λ ys. a ∷ (ys ++ filter q (range_with_len (a + 1) n))) (none f) ∙ sym (ap (λ ys. ys ++ (a ∷ filter q (range_with_len (a + 1) n))) (none f))
    ends false false e f = refl

    head : filter either (range_with_len (a + 1) n) ≡ filter p (range_with_len (a + 1) n) ++ filter q (range_with_len (a + 1) n) → (b c : Bool) → p a ≡ b → q a ≡ c
        → filter either (range_with_len a (suc n)) ≡ filter p (range_with_len a (suc n)) ++ filter q (range_with_len a (suc n))
    head later b c e f =
        (λ i. cond (e i || f i) (a ∷ later i) (later i)) ∙ ends b c e f ∙ sym (λ i. cond (e i) (a ∷ filter p (range_with_len (a + 1) n)) (filter p (range_with_len (a + 1) n)) ++ cond (f i) (a ∷ filter q (range_with_len (a + 1) n)) (filter q (range_with_len (a + 1) n)))

-- ---- the lists of two batches of slots

module _ (h : Heap) (xs ys : List (ℕ × ℕ)) (apart : (x y : ℕ × ℕ) → Contains xs x → Contains ys y → card_of h x.0 < card_of h y.0) where
  linked_by : (zs : List (ℕ × ℕ)) (r c : ℕ) → is_linked h zs r c ≡ true → (z : ℕ × ℕ) × (Contains zs z × (card_of h z.0 ≡ c))
  linked_by zs r c e =
      let m = any_member (λ z. leads_into h r (link z) && eqb (card_of h z.0) c) zs e in
      (m.0, (m.1, eqb-true (card_of h m.0.0) c (and_true (leads_into h r (link m.0)) (eqb (card_of h m.0.0) c) m.2).1))

  cards_apart : (r c d : ℕ) → is_linked h xs r c ≡ true → is_linked h ys r d ≡ true → c < d
  cards_apart r c d e f =
      let a = linked_by xs r c e in
      let b = linked_by ys r d f in
      omega (arith, apart a.0 b.0 a.1.0 b.1.0, a.1.1, b.1.1)

  -- a region's list is that of the first, and behind it that of the second
  pub row_joined : (r : ℕ) → cards_where h (is_linked h (xs ++ ys) r) ≡ cards_where h (is_linked h xs r) ++ cards_where h (is_linked h ys r)
  row_joined r =
      let count : ℕ = h.geometry.n * h.geometry.w / h.geometry.k in
      filter_same_in (is_linked h (xs ++ ys) r) (λ c. is_linked h xs r c || is_linked h ys r c) (range_with_len 0 count)
      (λ c i. list_any-append (λ z. leads_into h r (link z) && eqb (card_of h z.0) c) xs ys)
      ∙ split_filter (is_linked h xs r) (is_linked h ys r) (cards_apart r) 0 count

  -- the lists of all of them, as they are put together
  pub lists_joined : (lists : List (List ℕ)) → length lists ≡ h.geometry.n
      → ((r : ℕ) → r < h.geometry.n → get_or lists r [] ≡ get_or (cards_by_region h xs) r [] ++ get_or (cards_by_region h ys) r []) → lists ≡ cards_by_region h (xs ++ ys)
  lists_joined lists count each = table_is 0 h.geometry.n lists count (λ r lt.
      let zero_more : r ≡ 0 + r = omega arith in
      each r lt ∙ (λ i. row xs r lt i ++ row ys r lt i) ∙ sym (row_joined r) ∙ ap (λ n. cards_where h (is_linked h (xs ++ ys) n)) zero_more)
    where
      row : (zs : List (ℕ × ℕ)) (r : ℕ) → r < h.geometry.n → get_or (cards_by_region h zs) r [] ≡ cards_where h (is_linked h zs r)
      row zs r lt = get_or-map-range_with_len (λ r. cards_where h (is_linked h zs r)) 0 h.geometry.n r r [] lt (omega arith)

      table_is : (a n : ℕ) (zs : List (List ℕ)) → length zs ≡ n → ((r : ℕ) → r < n → get_or zs r [] ≡ cards_where h (is_linked h (xs ++ ys) (a + r)))
          → zs ≡ map (λ r. cards_where h (is_linked h (xs ++ ys) r)) (range_with_len a n)
      table_is a zero [] e f = refl
      table_is a zero (z ∷ zs) e f = absurd (omega (arith, e))
      table_is a (suc n) [] e f = absurd (omega (arith, e))
      table_is a (suc n) (z ∷ zs) e f =
          let here : a + 0 ≡ a = omega arith in
          let head : z ≡ cards_where h (is_linked h (xs ++ ys) a) = f 0 (omega arith) ∙ ap (λ n. cards_where h (is_linked h (xs ++ ys) n)) here in
          (λ i. head i ∷ zs) ∙ ap (λ ws. cards_where h (is_linked h (xs ++ ys) a) ∷ ws) (table_is (a + 1) n zs (omega (arith, e))
          (λ r lt. let next : a + suc r ≡ a + 1 + r = omega arith in f (suc r) (omega (arith, lt)) ∙ ap (λ n. cards_where h (is_linked h (xs ++ ys) n)) next))

-- ---- lists that get more

-- the lists up to one have got those of others behind their own, and the next gets it too
module _ (old initial more : List (List ℕ)) (r : ℕ) (item : List ℕ) (lt : r < length old) (is : item ≡ get_or old r [] ++ get_or more r [])
    (done : (k : ℕ) → k < r → get_or old k [] ≡ get_or initial k [] ++ get_or more k []) (rest : (k : ℕ) → r ≤ k → get_or old k [] ≡ get_or initial k []) where
  pub appended_done : (k : ℕ) → k < r + 1 → get_or (set old r item) k [] ≡ get_or initial k [] ++ get_or more k []
  appended_done k less = elim (cases_lt k r) [
    | inl low ↦ get_or-set_other old r k item [] (λ s. omega (arith, s, low)) ∙ done k low
    | inr ge ↦
        let same : k ≡ r = omega (arith, less, ge) in
        ap (λ n. get_or (set old r item) n []) same ∙ get_or-set_same old r item [] lt ∙ is ∙ ap (λ ys. ys ++ get_or more r []) (rest r (omega arith))
        ∙ ap (λ n. get_or initial n [] ++ get_or more n []) (sym same)
  ]

  pub appended_rest : (k : ℕ) → r + 1 ≤ k → get_or (set old r item) k [] ≡ get_or initial k []
  appended_rest k le = get_or-set_other old r k item [] (λ s. omega (arith, s, le)) ∙ rest k (omega (arith, le))

-- ---- where the slots of a part stand

module _ (h : Heap) (set l : List ℕ) (valid : IsValid h) (can : CanPlace h set l) (room : need h l ≤ length (free_regions h)) where
  -- the region of to-space that the k-th survivor goes to, by number
  abbrev number : ℕ → ℕ
  number k = get_or (laid h.geometry.w 0 (sizes_of h l)) k 0 / h.geometry.w

  -- a slot of a survivor stands in the region that the survivor goes to
  slot_region : (k : ℕ) (x : ℕ × ℕ) → k < length l → Contains (moved_slots h l (get_or l k 0)) x → region_of h x.0 ≡ get_or (free_regions h) (number k) 0
  slot_region k x lt i =
      let a : ℕ = get_or l k 0 in
      let there = Contains-get_or l k 0 lt in
      let s = moved_slot h set l valid can room a x i in
      let at : forward h l a + s.offset ≡ x.0 = ap (λ (z : ℕ × ℕ). z.0) s.is in
      let fits = (within_region h set l valid can room a there).1 in
      let slots = survivor_slots h set l valid can room a there in
      let parts : forward h l a / h.geometry.w * h.geometry.w + forward h l a % h.geometry.w ≡ forward h l a = div-add-mod' (forward h l a) h.geometry.w in
      let low : forward h l a / h.geometry.w ≤ x.0 / h.geometry.w = (le-div_iff_mul-le (w_positive h valid)).1 (omega (arith, parts, at)) in
      let high : x.0 / h.geometry.w < forward h l a / h.geometry.w + 1 = (div-lt_iff_lt-mul (w_positive h valid)).1 (omega (arith, parts, at, fits, slots, s.last)) in
      let same : x.0 / h.geometry.w ≡ forward h l a / h.geometry.w = omega (arith, low, high) in
      same ∙ ap (λ p. p / h.geometry.w) (forward_at h set l valid can room k lt) ∙ place_region h l (w_positive h valid) (can_lay h set l valid can) room k lt

  -- of slots in two regions, the one in the lower region has the lower card
  cards_rise : (p q : ℕ) → region_of h p < region_of h q → card_of h p < card_of h q
  cards_rise p q less =
      let m = cards_in_region h.geometry.w h.geometry.k h.geometry.n valid.limits in
      let one : (p / h.geometry.w + 1) * h.geometry.w ≤ q / h.geometry.w * h.geometry.w = mul-le-mul_right h.geometry.w (omega (arith, less)) in
      let below : p < (p / h.geometry.w + 1) * h.geometry.w = (div-lt_iff_lt-mul (w_positive h valid)).0 (omega arith) in
      let above : q / h.geometry.w * h.geometry.w ≤ q = (le-div_iff_mul-le (w_positive h valid)).0 (omega arith) in
      let cards : (p / h.geometry.w + 1) * h.geometry.w ≡ (p / h.geometry.w + 1) * m.0 * h.geometry.k = ap (λ w. (p / h.geometry.w + 1) * w) m.1 ∙ omega arith in
      let first : p / h.geometry.k < (p / h.geometry.w + 1) * m.0 = (div-lt_iff_lt-mul (k_positive h valid)).1 (omega (arith, below, cards)) in
      let second : (p / h.geometry.w + 1) * m.0 ≤ q / h.geometry.k = (le-div_iff_mul-le (k_positive h valid)).1 (omega (arith, one, above, cards)) in
      omega (arith, first, second)

  -- no card of the survivors before a run has a slot of those behind
  pub parts_apart : (t j : ℕ) → (x y : ℕ × ℕ) → Contains (first_copied h l (laid_before h l t)) x → Contains (copied_between h l (laid_before h l t) j) y → card_of h x.0 < card_of h y.0
  parts_apart t j x y i k =
      let lay = can_lay h set l valid can in
      let row = laid h.geometry.w 0 (sizes_of h l) in
      let count = count_row h l (w_positive h valid) lay room in
      let order = rises h l (w_positive h valid) lay room in
      let from : ℕ = laid_before h l t in
      let a = flat_map_cases (moved_slots h l) (take from l) x i in
      let ca = a.1 in
      let na : ℕ = ca.0 in
      let la = length-take from l in
      let in_first : na < from = omega (arith, ca.1, la) in
      let in_list : na < length l = omega (arith, ca.1, la) in
      let is_a : get_or l na 0 ≡ a.0 = get_or_default l na 0 a.0 in_list ∙ sym (get_or-take from l na a.0 in_first) ∙ ca.2 in
      let b = flat_map_cases (moved_slots h l) (take (j - from) (drop from l)) y k in
      let cb = b.1 in
      let lb = length-take (j - from) (drop from l) in
      let ld = length-drop from l in
      let nb : ℕ = from + cb.0 in
      let b_list : from + cb.0 < length l = omega (arith, cb.1, lb, ld) in
      let is_b : get_or l (from + cb.0) 0 ≡ b.0 =
      sym (get_or-drop from l cb.0 0) ∙ get_or_default (drop from l) cb.0 0 b.0 (omega (arith, b_list, ld)) ∙ sym (get_or-take (j - from) (drop from l) cb.0 b.0 (omega (arith, cb.1, lb))) ∙ cb.2 in
      let before : number na < t = before_lies h.geometry.w t row na order in_first in
      let behind : t ≤ number nb = after_lies h.geometry.w t row nb order (omega (arith, b_list, count)) (omega arith) in
      let rx = slot_region na x in_list (subst (λ z. Contains (moved_slots h l z) x) (sym is_a) a.2) in
      let ry = slot_region nb y b_list (subst (λ z. Contains (moved_slots h l z) y) (sym is_b) b.2) in
      let last = needed h l (w_positive h valid) lay room nb b_list in
      let up = free_rises h (number na) (number nb) (omega (arith, before, behind)) (omega (arith, last, room)) in
      cards_rise x.0 y.0 (omega (arith, rx, ry, up))

  -- no run begins before the one in front of it
  pub laid_rise : (t m : ℕ) → t + m ≤ need h l → laid_before h l t ≤ laid_before h l (t + m)
  laid_rise t zero le = let e : t + 0 ≡ t = omega arith in omega (arith, ap (laid_before h l) e)
  laid_rise t (suc m) le =
      let next : t + suc m ≡ t + m + 1 = omega arith in
      omega (arith, laid_rise t m (omega (arith, le)), laid_before-more h l (w_positive h valid) (can_lay h set l valid can) room (t + m) (omega (arith, le)), ap (laid_before h l) next)

-- ---- the parts of a plan's runs

-- the slots of the first j parts
abbrev pub slots_to : Heap → Plan → ℕ → ℕ → List (ℕ × ℕ)
slots_to h p size j = first_copied h p.survivors (laid_before h p.survivors (runs_before p size j))

module _ (h : Heap) (p : Plan) (made : IsPlanOf h p) (valid : IsValid h) (size : ℕ) where
  -- of none
  pub parts_none : replicate h.geometry.n [] ≡ cards_by_region h [] → replicate h.geometry.n [] ≡ cards_by_region h (slots_to h p size 0)
  parts_none e =
      let none : min (0 * size) (length p.runs) ≡ 0 = omega arith in
      e ∙ ap (λ n. cards_by_region h (first_copied h p.survivors n)) (sym (ap (laid_before h p.survivors) none ∙ laid_none h p.set p.survivors valid made.placeable made.room))

  -- one part more
  pub parts_more : (j : ℕ) (old more new : List (List ℕ)) → old ≡ cards_by_region h (slots_to h p size j) → more ≡ part_cards h p size j → length new ≡ h.geometry.n
      → ((r : ℕ) → r < h.geometry.n → get_or new r [] ≡ get_or old r [] ++ get_or more r []) → new ≡ cards_by_region h (slots_to h p size (j + 1))
  parts_more j old more new e f count each =
      let l = p.survivors in
      let t : ℕ = runs_before p size j in
      let u : ℕ = runs_before p size (j + 1) in
      let runs = runs_count h p made in
      let order : min (j * size) (length p.runs) ≤ min ((j + 1) * size) (length p.runs) = omega arith in
      let whole : t + (u - t) ≡ u = omega (arith, order) in
      let rise : laid_before h p.survivors t ≤ laid_before h p.survivors u =
      subst (λ n. laid_before h p.survivors t ≤ laid_before h p.survivors n) whole (laid_rise h p.set l valid made.placeable made.room t (u - t) (omega (arith, whole, runs))) in
      lists_joined h (slots_to h p size j) (copied_between h l (laid_before h l t) (laid_before h l u)) (parts_apart h p.set l valid made.placeable made.room t (laid_before h l u)) new count
      (λ r lt. each r lt ∙ (λ i. get_or (e i) r [] ++ get_or (f i) r []))
      ∙ ap (cards_by_region h) (first_between h l (laid_before h l t) (laid_before h l u) rise)

  -- all parts
  pub parts_all : (j : ℕ) → length p.runs ≤ j * size → slots_to h p size j ≡ copied_slots h p.survivors
  parts_all j le =
      let all : runs_before p size j ≡ need h p.survivors = omega (arith, le, runs_count h p made) in
      ap (λ n. first_copied h p.survivors (laid_before h p.survivors n)) all
      ∙ ap (first_copied h p.survivors) (laid_all h p.set p.survivors valid made.placeable made.room)
      ∙ ap (flat_map (moved_slots h p.survivors)) (take-length p.survivors)

  -- all runs
  pub runs_all : (n : ℕ) → n ≡ length p.runs → copied_between h p.survivors (laid_before h p.survivors 0) (laid_before h p.survivors n) ≡ copied_slots h p.survivors
  runs_all n e =
      let none = laid_none h p.set p.survivors valid made.placeable made.room in
      let all = ap (laid_before h p.survivors) (e ∙ runs_count h p made) ∙ laid_all h p.set p.survivors valid made.placeable made.room in
      let count : length p.survivors - 0 ≡ length p.survivors = omega arith in
      (λ i. copied_between h p.survivors (none i) (all i))
      ∙ ap (λ m. flat_map (moved_slots h p.survivors) (take m p.survivors)) count ∙ ap (flat_map (moved_slots h p.survivors)) (take-length p.survivors)

module _ (h : Heap) (p : Plan) (size : ℕ) where
  -- the j-th part, of its first run and the one behind its last
  pub part_is : (j from to : ℕ) → from ≡ j * size → from ≤ length p.runs → to ≡ from + min size (length p.runs - from)
      → cards_by_region h (copied_between h p.survivors (laid_before h p.survivors from) (laid_before h p.survivors to)) ≡ part_cards h p size j
  part_is j from to e le f =
      let next : (j + 1) * size ≡ from + size = omega (arith, e) in
      let first : from ≡ runs_before p size j = omega (arith, e, le) in
      let last : to ≡ min (from + size) (length p.runs) = omega (arith, f, le) in
      (λ i. cards_by_region h (copied_between h p.survivors (laid_before h p.survivors (first i)) (laid_before h p.survivors (last i))))
      ∙ ap (λ n. cards_by_region h (copied_between h p.survivors (laid_before h p.survivors (runs_before p size j)) (laid_before h p.survivors (min n (length p.runs))))) (sym next)
