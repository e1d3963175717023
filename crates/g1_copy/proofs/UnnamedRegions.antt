-- The runs of the humongous objects that nothing names, one after another, are their regions.
use Rattle.std.proofs.Common.{◌≡◌, ℕ, ◌+◌, ◌-◌, ◌*◌, ◌<◌, ◌≤◌, inl, inr, true, not, filter, List, [], ◌∷◌, All, get_or, map, flat_map, sym, ◌∙◌, ap, subst, arith, lt-ltb, ltb, ltb-true, Contains}
use Rattle.std.specs.Int.{div_ceil}
use Rattle.std.specs.List.{list_any, range_with_len}
use Rattle.std.proofs.lemmas.Bool.{and_from, cases_Bool, cases_lt, false≢true}
use Rattle.std.proofs.lemmas.Grind.{div_ceil_times}
use Rattle.std.proofs.Math.Nat.{add-mul, mul-le-mul_right}
use Rattle.std.proofs.lemmas.List.Elements.{Contains-get_or}
use Rattle.std.proofs.lemmas.List.Folds.{flat_map-map}
use Rattle.g1_words.specs.declared.object.Object.{Object}
use Rattle.g1_words.specs.Heap.{Heap, is_first, kind, object_at, objects, region_of, regions}
use Rattle.g1_words.specs.Layout.{HasRoom}
use Rattle.g1_words.specs.Valid.{IsValid}
use Rattle.g1_words.proofs.Computed.{Contains-range, range_above, range_below}
use Rattle.g1_words.proofs.Indices.{range_bounds}
use Rattle.g1_words.proofs.Lists.{any_from_in}
use Rattle.g1_words.proofs.Members.{Contains-filter, Contains-first, Contains-flat_map, Contains-later, and_true, any_member, filter_member, flat_map_cases, map_cases}
use Rattle.g1_words.proofs.Ordered.{Ordered, Ordered-from_pairs}
use Rattle.g1_words.proofs.Rising.{IsBefore, Ordered-filter, objects_apart}
use Rattle.g1_words.proofs.Shapes.{built}
use Rattle.g1_words.proofs.Sound.{w_positive}
use Rattle.g1_words.proofs.Standing.{home_region, word_used}
use Rattle.g1_image.specs.Cards.{IsTracked}
use Rattle.g1_image.specs.Image.{Image}
use Rattle.g1_after.specs.Made.{heap_moved}
use Rattle.g1_after.specs.Unnamed.{is_named, lies_in, unnamed, unnamed_regions}
use Rattle.g1_after.proofs.UnnamedRegions.{humongous_home, lies_word, unnamed_humongous}
use Rattle.g1_rem.proofs.Rising.{Rises, Rises-append, Rises-filter, Rises-one, Rises-range, Rises-weaken}
use Rattle.g1_copy.specs.Unnamed.{humongous_regions}
use Rattle.g1_copy.proofs.Lists.{flat_map_same_in}
use Rattle.g1_copy.proofs.UnnamedFirsts.{moved_tracked, first_by_test, kind_tells, object_same}

module _ (h : Heap) (valid : IsValid h) where
  -- how many regions a run takes
  abbrev count : Object → ℕ
  count o = div_ceil o.size h.geometry.w

  -- such an object stands at the start of its region
  stands_at : (o : Object) → Contains (unnamed h) o → (o.at ≡ region_of h o.at * h.geometry.w) × ((object_at h (region_of h o.at * h.geometry.w)).size ≡ o.size)
  stands_at o k =
      let t = humongous_home h (built h valid) o (unnamed_humongous h (built h valid) o k).0 in
      let r : region_of h o.at ≡ t.0 = home_region h (built h valid) t.0 o t.2 in
      (t.3.at ∙ ap (λ x. x * h.geometry.w) (sym r), ap (λ x. (object_at h (x * h.geometry.w)).size) r ∙ sym t.3.size)

  -- the regions of its run
  regions_are : (o : Object) → Contains (unnamed h) o → humongous_regions h (region_of h o.at) ≡ range_with_len (region_of h o.at) (count o)
  regions_are o k = ap (λ x. range_with_len (region_of h o.at) (div_ceil x h.geometry.w)) (stands_at o k).1

  -- they are those that it lies in
  run_lies : (o : Object) (x : ℕ) → Contains (unnamed h) o → Contains (range_with_len (region_of h o.at) (count o)) x → lies_in h x o ≡ true
  run_lies o x k m =
      let r : ℕ = region_of h o.at in
      let at = (stands_at o k).0 in
      let low = range_above (region_of h o.at) (count o) x m in
      let high = range_below (region_of h o.at) (count o) x m in
      let c = div_ceil_times o.size h.geometry.w (w_positive h valid) in
      let from : r * h.geometry.w ≤ x * h.geometry.w = mul-le-mul_right h.geometry.w low in
      let sum : (r + (x - r)) * h.geometry.w ≡ r * h.geometry.w + (x - r) * h.geometry.w = add-mul r (x - r) h.geometry.w in
      let whole : r + (x - r) ≡ x = omega (arith, low) in
      let product : (r + (x - r)) * h.geometry.w ≡ x * h.geometry.w = ap (λ z. z * h.geometry.w) whole in
      let next : (x - r + 1) * h.geometry.w ≤ count o * h.geometry.w = mul-le-mul_right h.geometry.w (omega (arith, low, high)) in
      let one : (x - r + 1) * h.geometry.w ≡ (x - r) * h.geometry.w + h.geometry.w = omega arith in
      and_from (ltb o.at (x * h.geometry.w + h.geometry.w)) (ltb (x * h.geometry.w) (o.at + o.size))
      (lt-ltb o.at (x * h.geometry.w + h.geometry.w) (omega (arith, at, from, w_positive h valid)))
      (lt-ltb (x * h.geometry.w) (o.at + o.size) (omega (arith, at, sum, product, next, one, c.1)))

  -- and each of those is one of them
  lies_run : (o : Object) (x : ℕ) → Contains (unnamed h) o → lies_in h x o ≡ true → Contains (range_with_len (region_of h o.at) (count o)) x
  lies_run o x k t =
      let r : ℕ = region_of h o.at in
      let at = (stands_at o k).0 in
      let both = and_true (ltb o.at (x * h.geometry.w + h.geometry.w)) (ltb (x * h.geometry.w) (o.at + o.size)) t in
      let low : o.at < x * h.geometry.w + h.geometry.w = ltb-true o.at (x * h.geometry.w + h.geometry.w) both.0 in
      let high : x * h.geometry.w < o.at + o.size = ltb-true (x * h.geometry.w) (o.at + o.size) both.1 in
      let c = div_ceil_times o.size h.geometry.w (w_positive h valid) in
      let sum : (r + count o) * h.geometry.w ≡ r * h.geometry.w + count o * h.geometry.w = add-mul r (count o) h.geometry.w in
      let above : region_of h o.at ≤ x = elim (cases_lt x (region_of h o.at)) [
        | inr ge ↦ ge
        | inl lt ↦ (let less : (x + 1) * h.geometry.w ≤ r * h.geometry.w = mul-le-mul_right h.geometry.w (omega (arith, lt)) in absurd (omega (arith, at, low, less)))
      ] in
      let below : x < region_of h o.at + count o = elim (cases_lt x (region_of h o.at + count o)) [
        | inl lt ↦ lt
        | inr ge ↦ (let more : (r + count o) * h.geometry.w ≤ x * h.geometry.w = mul-le-mul_right h.geometry.w ge in absurd (omega (arith, at, high, more, sum, c.0)))
      ] in
      Contains-range (region_of h o.at) (count o) x above below

  -- the runs rise
  regions_rise : (os : List Object) → Ordered IsBefore os → ((o : Object) → Contains os o → Contains (unnamed h) o) → (lo : ℕ) →
      ((o : Object) → Contains os o → lo ≤ region_of h o.at) → Rises lo (flat_map (λ o. humongous_regions h (region_of h o.at)) os)
  regions_rise [] order these lo above = tt
  regions_rise (o ∷ os) order these lo above =
      let r : ℕ = region_of h o.at in
      let k = these o (Contains-first o os) in
      let le = above o (Contains-first o os) in
      let here : Rises lo (humongous_regions h (region_of h o.at)) = subst (Rises lo) (sym (regions_are o k)) (Rises-weaken lo r (range_with_len r (count o)) le (Rises-range r (count o))) in
      Rises-append lo (region_of h o.at + count o) (humongous_regions h (region_of h o.at)) (flat_map (λ o. humongous_regions h (region_of h o.at)) os) here
      (regions_rise os order.1 (λ p m. these p (Contains-later o os p m)) (region_of h o.at + count o) (λ p m. later p (these p (Contains-later o os p m)) k (order.0 p m)))
      (omega (arith, le))
      (λ x m. range_below r (count o) x (subst (λ xs. Contains xs x) (regions_are o k) m))
    where
      later : (p : Object) → Contains (unnamed h) p → Contains (unnamed h) o → o.at + o.size ≤ p.at → region_of h o.at + count o ≤ region_of h p.at
      later p m k before = elim (cases_lt (region_of h p.at) (region_of h o.at + count o)) [
        | inr ge ↦ ge
        | inl lt ↦ (
            let q : ℕ = region_of h p.at in
            let r : ℕ = region_of h o.at in
            let one = (stands_at o k).0 in
            let two = (stands_at p m).0 in
            let c = div_ceil_times o.size h.geometry.w (w_positive h valid) in
            let next : (q + 1) * h.geometry.w ≤ (r + count o) * h.geometry.w = mul-le-mul_right h.geometry.w (omega (arith, lt)) in
            let sum : (r + count o) * h.geometry.w ≡ r * h.geometry.w + count o * h.geometry.w = add-mul r (count o) h.geometry.w in
            absurd (omega (arith, one, two, before, next, sum, c.1)))
      ]

  -- the runs are the regions of the objects that nothing names
  all_regions : flat_map (humongous_regions h) (map (λ o. region_of h o.at) (unnamed h)) ≡ unnamed_regions h
  all_regions =
      let order : Ordered IsBefore (unnamed h) =
      Ordered-filter IsBefore (λ o. not (is_named h o)) (filter (λ o. is_first (kind h (region_of h o.at))) (objects h))
      (Ordered-filter IsBefore (λ o. is_first (kind h (region_of h o.at))) (objects h) (Ordered-from_pairs IsBefore (objects h) (objects_apart h valid))) in
      flat_map-map (humongous_regions h) (λ o. region_of h o.at) (unnamed h)
      ∙ Rises-one 0 0 (flat_map (λ o. humongous_regions h (region_of h o.at)) (unnamed h)) (unnamed_regions h)
      (regions_rise (unnamed h) order (λ o k. k) 0 (λ o k. omega arith))
      (Rises-filter (λ r. list_any (lies_in h r) (unnamed h)) 0 (regions h) (Rises-range 0 h.geometry.n))
      (λ x k.
      let m = flat_map_cases (λ o. humongous_regions h (region_of h o.at)) (unnamed h) x k in
      let t = run_lies m.0 x m.1 (subst (λ xs. Contains xs x) (regions_are m.0 m.1) m.2) in
      Contains-filter (λ r. list_any (lies_in h r) (unnamed h)) (regions h) x (Contains-range 0 h.geometry.n x (omega arith) (omega (arith, inside m.0 x m.1 t)))
      (any_from_in (lies_in h x) (unnamed h) m.0 m.1 t))
      (λ x k.
      let m = filter_member (λ r. list_any (lies_in h r) (unnamed h)) (regions h) x k in
      let a = any_member (lies_in h x) (unnamed h) m.1 in
      Contains-flat_map (λ o. humongous_regions h (region_of h o.at)) (unnamed h) a.0 x a.1 (subst (λ xs. Contains xs x) (sym (regions_are a.0 a.1)) (lies_run a.0 x a.1 a.2)))
    where
      inside : (o : Object) (x : ℕ) → Contains (unnamed h) o → lies_in h x o ≡ true → x < h.geometry.n
      inside o x k t =
          let m = humongous_home h (built h valid) o (unnamed_humongous h (built h valid) o k).0 in
          let fits = m.3.refs in
          let w = lies_word h (built h valid) x o (omega arith) t in
          subst (λ y. y < h.geometry.n) w.2 (word_used h (built h valid) m.0 o w.0 m.2 w.1).0

-- the region that such an object begins in is the first of a run
unnamed_first : (h : Heap) (o : Object) → Contains (unnamed h) o → is_first (kind h (region_of h o.at)) ≡ true
unnamed_first h o k =
    (filter_member (λ o. is_first (kind h (region_of h o.at))) (objects h) o (filter_member (λ o. not (is_named h o)) (filter (λ o. is_first (kind h (region_of h o.at))) (objects h)) o k).0).1

-- ---- from the heap before

module _ (i : Image) (set l : List ℕ) (tracked : IsTracked i) (a : HasRoom i.heap set l) (firsts : List ℕ) (are : firsts
    ≡ map (λ (o : Object). region_of i.heap o.at) (unnamed (heap_moved i.heap set l))) where
  abbrev j : Heap
  j = heap_moved i.heap set l

  -- the heap after the moves is valid
  moved_valid : IsValid (heap_moved i.heap set l)
  moved_valid = (moved_tracked i set l tracked a).image.heap

  -- a first region is one of the heap's, and a humongous object begins there
  first_is : (r : ℕ) → Contains firsts r → (r < i.heap.geometry.n) × (is_first (kind i.heap r) ≡ true)
  first_is r k =
      let m = map_cases (λ (o : Object). region_of i.heap o.at) (unnamed j) r (subst (λ xs. Contains xs r) are k) in
      let t = humongous_home j (built j moved_valid) m.0 (unnamed_humongous j (built j moved_valid) m.0 m.1).0 in
      let at : t.0 ≡ r = sym (home_region j (built j moved_valid) t.0 m.0 t.2) ∙ m.2 in
      let lt : r < i.heap.geometry.n = subst (λ x. x < i.heap.geometry.n) at t.2.0 in (
        lt,
        elim (cases_Bool (is_first (kind i.heap r))) [
          | inl e ↦ e
          | inr e ↦ absurd (false≢true (sym (kind_tells i set l tracked a r lt e) ∙ sym (ap (λ x. is_first (kind j x)) m.2) ∙ unnamed_first j m.0 m.1))
        ],
      )

  -- the first regions are the heap's
  pub firsts_below : All (λ r. r < i.heap.geometry.n) firsts
  firsts_below k d lt = (first_is (get_or firsts k d) (Contains-get_or firsts k d lt)).0

  -- the runs that begin there are the regions to be freed
  pub freed_are : flat_map (humongous_regions i.heap) firsts ≡ unnamed_regions (heap_moved i.heap set l)
  freed_are =
      flat_map_same_in (humongous_regions i.heap) (humongous_regions j) firsts
      (λ r k.
      let f = first_is r k in
      ap (λ (o : Object). range_with_len r (div_ceil o.size i.heap.geometry.w)) (sym (object_same i set l tracked a r f.0 (first_by_test (kind i.heap r) f.1))))
      ∙ ap (flat_map (humongous_regions j)) are ∙ all_regions j moved_valid

-- the regions to be freed are the heap's
pub freed_below : (h : Heap) → All (λ r. r < h.geometry.n) (unnamed_regions h)
freed_below h k d lt =
    let m = filter_member (λ r. list_any (lies_in h r) (unnamed h)) (regions h) (get_or (unnamed_regions h) k d) (Contains-get_or (unnamed_regions h) k d lt) in
    let b = range_bounds 0 h.geometry.n (get_or (unnamed_regions h) k d) m.0 in
    omega arith
