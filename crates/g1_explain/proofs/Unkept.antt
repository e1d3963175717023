-- The humongous objects that nothing keeps are those that a pause frees.
use Rattle.std.proofs.Common.{◌≡◌, ℕ, suc, ◌+◌, ◌-◌, ◌*◌, ◌<◌, ◌≤◌, inl, inr, Bool, true, false, not, cond, ◌&&◌, ◌||◌, List, [], ◌∷◌, ◌++◌, length, get_or, map, filter, flat_map, slice_index, Contains, refl, sym, ◌∙◌, ap, subst, arith, eqb, eqb-true, eq-eqb, leb, ltb, leb-true, ltb-true, lt-ltb, zero}
use Rattle.std.specs.Int.{div_ceil}
use Rattle.std.specs.List.{list_any}
use Rattle.std.proofs.lemmas.Bool.{cases_lt, false≢true, or_parts, or_from as either, and_from, false_from_ne_true, and_parts, or_cases}
use Rattle.std.proofs.lemmas.Grind.{div_ceil_times}
use Rattle.std.proofs.lemmas.List.Folds.{list_any-append}
use Rattle.std.proofs.Math.Nat.{add-mul, mul-le-mul_right}
use Rattle.std.proofs.lemmas.List.Elements.{Contains-append_cases, Contains-append_left, Contains-append_right, Contains-get_or}
use Rattle.g1_words.specs.declared.object.Object.{Object}
use Rattle.g1_words.specs.declared.region.Kind.TheVariants.{Free, Ordinary, HumongousFirst}
use Rattle.g1_words.specs.Heap.{Heap, kind, word, start, region_of, card_of, regions, objects, objects_in, objects_by, object_at, is_first}
use Rattle.g1_words.specs.Layout.{HasRoom, forward, free_regions, kept}
use Rattle.g1_words.specs.Lists.{has}
use Rattle.g1_words.specs.References.{Ref, refs, root_targets, targets}
use Rattle.g1_words.specs.Survivors.{in_set}
use Rattle.g1_words.proofs.Computed.{Contains-range}
use Rattle.g1_words.proofs.Indices.{range_bounds, is_free_region}
use Rattle.g1_words.proofs.Members.{Contains-flat_map, Contains-filter, Contains-map, filter_member, map_cases, has_from_contains, Contains-from_has, any_member}
use Rattle.g1_words.proofs.OneToOne.{kept_cases, outside_stays, survivor_to_free}
use Rattle.g1_words.proofs.Shapes.{built}
use Rattle.g1_words.proofs.Sound.{IsSound}
use Rattle.g1_words.proofs.Standing.{InHumongous, Stands, built_is_sound, home, home_region, ordinary_word, run_word, w_pos, word_in_ordinary, word_used}
use Rattle.g1_words.proofs.Lists.{none_passes, by_number, any_from_in}
use Rattle.g1_words.proofs.Logic.{same_test}
use Rattle.g1_image.specs.Image.{Image}
use Rattle.g1_image.specs.Cards.{IsTracked}
use Rattle.g1_after.specs.Made.{heap_moved, image_moved}
use Rattle.g1_after.specs.Survived.{IsMovedRef}
use Rattle.g1_after.specs.Unnamed.{has_word, humongous, is_named, lies_in, unnamed}
use Rattle.g1_after.proofs.ObjectsOf.{kept_outside, survivor_region}
use Rattle.g1_after.proofs.RefsMoved.{refs_moved}
use Rattle.g1_after.proofs.RefsOf.{slot_of, ref_of}
use Rattle.g1_after.proofs.RulesMoved.{RefMoved, ref_moved, before_kept}
use Rattle.g1_after.proofs.SameGraphs.{roots_renamed}
use Rattle.g1_after.proofs.ToSpace.{survivor_kept}
use Rattle.g1_after.proofs.UnnamedRegions.{humongous_home, word_in_run}
use Rattle.g1_after.proofs.ValidMoved.{kept_refs, humongous_shape, object_stays, root_kept, slot_names}
use Rattle.g1_copy.proofs.UnnamedFirsts.{first_by_test, kind_tells, moved_tracked}
use Rattle.g1_copy.proofs.Ground.{Ground, ground}
use Rattle.g1_pause.specs.declared.steps.Outcome.{Outcome}
use Rattle.g1_pause.specs.declared.steps.Outcome.TheVariants.{Ready, NoRoom}
use Rattle.g1_pause.specs.Steps.{IsOutcome}
use Rattle.g1_explain.specs.declared.finder.Finder.TheVariants.{Card}
use Rattle.g1_explain.specs.declared.humongous.Keeper.TheVariants.{NoObject}
use Rattle.g1_explain.specs.Finders.{Lead, root_leads, slot_leads, found_leads}
use Rattle.g1_explain.specs.Humongous.{run, run_end}
use Rattle.g1_explain.specs.Keepers.{is_nothing, first_keeper, leads_to, keeper_of}
use Rattle.g1_explain.specs.Unkept.{unkept, FreesUnkept}
use Rattle.g1_explain.proofs.FirstKeepers.{stands, start_there}
use Rattle.g1_explain.proofs.LeadOrder.{slot_tells, found_tells}
use Rattle.g1_explain.proofs.FirstLeads.{targets_of}
use Rattle.g1_explain.proofs.Targets.{root_part, found_targets}

-- a reference is there if there is a first one
some_lead : (ls : List Lead) → not (is_nothing (first_keeper ls)) ≡ true → (l : Lead) × Contains ls l
some_lead [] e = absurd (false≢true e)
some_lead (l ∷ ls) e = (l, (zero, omega arith, refl))

lead_first : (ls : List Lead) (l : Lead) → Contains ls l → not (is_nothing (first_keeper ls)) ≡ true
lead_first [] l k = absurd (omega (arith, k.1))
lead_first (x ∷ ls) l k = refl

-- one of some references leads to an address that they lead to
lead_with : (ls : List Lead) (a : ℕ) → Contains (targets_of ls) a → (l : Lead) × Contains ls l × (l.target ≡ a)
lead_with ls a k = map_cases (λ (l : Lead). l.target) ls a k

module _ (i : Image) (set l : List ℕ) (tracked : IsTracked i) (a : HasRoom i.heap set l) where
  abbrev h : Heap
  h = i.heap

  abbrev j : Image
  j = image_moved i set l

  abbrev g : Ground i set l
  g = ground i set l tracked.image.heap a

  abbrev f : ℕ → ℕ
  f = forward i.heap l

  -- a slot in the set is one of an object in the set
  slot_home : (o : Object) (m : ℕ) → Contains (objects h) o → m < o.size → in_set h set o.at ≡ true → in_set h set (o.at + m) ≡ true
  slot_home o m c lt e =
      let t = home h g.built o c in
      let one : kind h (region_of h o.at) ≡ Ordinary = a.ordinary (region_of h o.at) (Contains-from_has set (region_of h o.at) e) in
      let at : region_of h o.at ≡ t.0 = home_region h g.built t.0 o t.2 in
      elim t.2.2 [
        | inl y ↦ ap (has set) ((ordinary_word h g.built t.0 o m y lt).0 ∙ sym at) ∙ e
        | inr y ↦ let clash : HumongousFirst ≡ Ordinary = sym y.kind ∙ ap (kind h) (sym at) ∙ one in cc
      ]

  -- and one outside is one of an object outside
  slot_outside : (o : Object) (m : ℕ) → Contains (objects h) o → m < o.size → in_set h set o.at ≡ false → in_set h set (o.at + m) ≡ false
  slot_outside o m c lt out = false_from_ne_true (in_set h set (o.at + m)) (λ e.
      let t = home h g.built o c in
      let one : kind h (region_of h (o.at + m)) ≡ Ordinary = a.ordinary (region_of h (o.at + m)) (Contains-from_has set (region_of h (o.at + m)) e) in
      let w = word_in_ordinary h g.built t.0 o m t.2 lt one in
      false≢true (sym out ∙ ap (has set) (home_region h g.built t.0 o t.2 ∙ sym w.1) ∙ e))

  module _ (r : ℕ) (lt : r < i.heap.geometry.n) (first : is_first (kind i.heap r) ≡ true) where
    two : kind h r ≡ HumongousFirst
    two = first_by_test (kind h r) first

    abbrev at : ℕ
    at = start i.heap r

    abbrev o : Object
    o = object_at i.heap (start i.heap r)

    there : region_of h at ≡ r
    there = start_there h tracked.image.heap r first

    o_is_one : Contains (objects h) o
    o_is_one = stands h tracked.image.heap r first lt

    o_humongous : Contains (humongous h) o
    o_humongous = Contains-filter (λ (o : Object). is_first (kind h (region_of h o.at))) (objects h) o o_is_one (ap (λ q. is_first (kind h q)) there ∙ first)

    o_home : Stands h r o × InHumongous h r o
    o_home =
        let t = humongous_home h g.built o o_humongous in
        let same : t.0 ≡ r = sym (home_region h g.built t.0 o t.2) ∙ there in
        subst (λ q. Stands h q o × InHumongous h q o) same (t.2, t.3)

    outside : in_set h set at ≡ false
    outside = ap (has set) there ∙ false_from_ne_true (has set r) (λ t. let clash : Ordinary ≡ HumongousFirst = sym (a.ordinary r (Contains-from_has set r t)) ∙ two in cc)

    stays : f at ≡ at
    stays = outside_stays h set l g.sound a at outside

    object_same : object_at j.heap at ≡ o
    object_same = object_stays i set l j g.built a g.moved o o_is_one outside

    -- what is moved there was there
    back : (x : ℕ) → Contains (kept h set l) (object_at h x) → f x ≡ at → x ≡ at
    back x k e = elim (kept_cases h set l g.sound a (object_at h x) k) [
      | inl y ↦ sym (outside_stays h set l g.sound a x y.0) ∙ e
      | inr y ↦
          let same : y.0 ≡ x = ap (λ (q : Object). q.at) y.2 in
          let free = survivor_to_free h set l g.sound a y.0 y.1 in
          let clash : HumongousFirst ≡ Free = sym two ∙ ap (kind h) (sym there) ∙ ap (λ z. kind h (region_of h z)) (sym e ∙ ap f (sym same)) ∙ free in
          cc
    ]

    -- the words of an object in the regions of this one are its own
    own_word : (q : Object) (m : ℕ) → Contains (objects h) q → m < q.size → has (run h r) (region_of h (q.at + m)) ≡ has_word o (q.at + m)
    own_word q m c less = same_test (has (run h r) (region_of h (q.at + m))) (has_word o (q.at + m)) to from where
      fills : (o.size ≤ div_ceil o.size h.geometry.w * h.geometry.w) × (div_ceil o.size h.geometry.w * h.geometry.w < o.size + h.geometry.w)
      fills = div_ceil_times o.size h.geometry.w (w_pos h g.built)

      to : has (run h r) (region_of h (q.at + m)) ≡ true → has_word o (q.at + m) ≡ true
      to t =
          let b = range_bounds r (run_end h r - r) (region_of h (q.at + m)) (Contains-from_has (run h r) (region_of h (q.at + m)) t) in
          let low : r ≤ region_of h (q.at + m) = b.0 in
          let high : region_of h (q.at + m) - r + 1 ≤ div_ceil o.size h.geometry.w = omega (arith, b.0, b.1) in
          let from : r * h.geometry.w ≤ region_of h (q.at + m) * h.geometry.w = mul-le-mul_right h.geometry.w low in
          let next : (region_of h (q.at + m) - r + 1) * h.geometry.w ≤ div_ceil o.size h.geometry.w * h.geometry.w = mul-le-mul_right h.geometry.w high in
          let one : (region_of h (q.at + m) - r + 1) * h.geometry.w ≡ (region_of h (q.at + m) - r) * h.geometry.w + h.geometry.w = omega arith in
          let sum : (r + (region_of h (q.at + m) - r)) * h.geometry.w ≡ r * h.geometry.w + (region_of h (q.at + m) - r) * h.geometry.w = add-mul r (region_of h (q.at + m) - r) h.geometry.w in
          let whole : r + (region_of h (q.at + m) - r) ≡ region_of h (q.at + m) = omega (arith, low) in
          let product : (r + (region_of h (q.at + m) - r)) * h.geometry.w ≡ region_of h (q.at + m) * h.geometry.w = ap (λ z. z * h.geometry.w) whole in
          let wide = w_pos h g.built in
          let lies : lies_in h (region_of h (q.at + m)) o ≡ true =
          and_from (ltb (r * h.geometry.w) (region_of h (q.at + m) * h.geometry.w + h.geometry.w)) (ltb (region_of h (q.at + m) * h.geometry.w) (r * h.geometry.w + o.size))
          (lt-ltb (r * h.geometry.w) (region_of h (q.at + m) * h.geometry.w + h.geometry.w) (omega (arith, from, wide)))
          (lt-ltb (region_of h (q.at + m) * h.geometry.w) (r * h.geometry.w + o.size) (omega (arith, sum, product, next, one, fills.1))) in
          sym (word_in_run h g.built o q m o_humongous c less) ∙ lies

      from : has_word o (q.at + m) ≡ true → has (run h r) (region_of h (q.at + m)) ≡ true
      from t =
          let b = and_parts (leb at (q.at + m)) (ltb (q.at + m) (at + o.size)) t in
          let low = leb-true at (q.at + m) b.0 in
          let high = ltb-true (q.at + m) (at + o.size) b.1 in
          let same : at + (q.at + m - at) ≡ q.at + m = omega (arith, low) in
          let w = run_word h g.built r o (q.at + m - at) o_home.1 (omega (arith, low, high)) in
          let home : region_of h (q.at + m) ≡ r + w.0 = ap (region_of h) (sym same) ∙ w.1 in
          let few : w.0 < div_ceil o.size h.geometry.w = elim (cases_lt w.0 (div_ceil o.size h.geometry.w)) [
            | inl less ↦ less
            | inr ge ↦ let more : div_ceil o.size h.geometry.w * h.geometry.w ≤ w.0 * h.geometry.w = mul-le-mul_right h.geometry.w ge in absurd (omega (arith, more, fills.0, w.3))
          ] in
          let there = (word_used h g.built r o (q.at + m - at) o_home.0 (omega (arith, low, high))).0 in
          let within : region_of h (q.at + m) < h.geometry.n = subst (λ z. region_of h z < h.geometry.n) same there in
          has_from_contains (run h r) (region_of h (q.at + m))
          (Contains-range r (run_end h r - r) (region_of h (q.at + m)) (omega (arith, home)) (omega (arith, home, few, within, g.built.limits.n_most)))

    -- a reference that counts, by where it leads
    of_roots : Contains (root_targets h) at → (x : Lead) × Contains (leads_to h set l r) x
    of_roots k =
        let m = lead_with (root_leads h) at (subst (λ xs. Contains xs at) (sym (root_part h set)) k) in
        let all : List Lead = root_leads h ++ (slot_leads h (set ++ run h r) ++ found_leads h l (length l)) in
        (m.0, Contains-filter (λ x. eqb x.target at) all m.0 (Contains-append_left (root_leads h) (slot_leads h (set ++ run h r) ++ found_leads h l (length l)) m.0 m.1) (eq-eqb m.0.target at m.2))

    of_found : Contains (flat_map (targets h) l) at → (x : Lead) × Contains (leads_to h set l r) x
    of_found k =
        let m = lead_with (found_leads h l (length l)) at (subst (λ xs. Contains xs at) (sym (found_targets h set l)) k) in
        let all : List Lead = root_leads h ++ (slot_leads h (set ++ run h r) ++ found_leads h l (length l)) in (
          m.0,
          Contains-filter (λ x. eqb x.target at) all m.0 (Contains-append_right (root_leads h) (slot_leads h (set ++ run h r) ++ found_leads h l (length l)) m.0
              (Contains-append_right (slot_leads h (set ++ run h r)) (found_leads h l (length l)) m.0 m.1)) (eq-eqb m.0.target at m.2),
        )

    of_slot : (p : ℕ) → Contains (refs h) (record { slot = p; target = at }) → in_set h (set ++ run h r) p ≡ false → (x : Lead) × Contains (leads_to h set l r) x
    of_slot p k out =
        let e : Ref = record { slot = p; target = at } in
        let x : Lead = record { finder = Card (card_of h p) p; target = at } in
        let all : List Lead = root_leads h ++ (slot_leads h (set ++ run h r) ++ found_leads h l (length l)) in
        let m : Contains (slot_leads h (set ++ run h r)) x =
        Contains-map (λ (e : Ref). record { finder = Card (card_of h e.slot) e.slot; target = e.target }) (filter (λ (e : Ref). not (in_set h (set ++ run h r) e.slot)) (refs h)) e
        (Contains-filter (λ (e : Ref). not (in_set h (set ++ run h r) e.slot)) (refs h) e k (ap not out)) in (
          x,
          Contains-filter (λ x. eqb x.target at) all x (Contains-append_right (root_leads h) (slot_leads h (set ++ run h r) ++ found_leads h l (length l)) x
              (Contains-append_left (slot_leads h (set ++ run h r)) (found_leads h l (length l)) x m)) (eq-eqb at at refl),
        )

    window_is : (q : ℕ) → has (set ++ run h r) q ≡ (has set q || has (run h r) q)
    window_is q = list_any-append (λ y. eqb q y) set (run h r)

    -- something that names the object after the moves is a reference that counts
    named_leads : is_named j.heap o ≡ true → (x : Lead) × Contains (leads_to h set l r) x
    named_leads t = elim (or_cases (has (root_targets j.heap) at) (list_any (λ e. eqb e.target at && not (has_word o e.slot)) (refs j.heap)) t) [
      | inl k ↦
          let n : Contains (map (forward h l) (root_targets h)) at = subst (λ xs. Contains xs at) (roots_renamed (forward h l) h.roots) (Contains-from_has (root_targets j.heap) at k) in
          let m = map_cases (forward h l) (root_targets h) at n in
          let same : m.0 ≡ at = back m.0 (root_kept i set l j g.built a g.moved m.0 m.1) m.2 in
          of_roots (subst (Contains (root_targets h)) same m.1)
      | inr k ↦
          let m = any_member (λ e. eqb e.target at && not (has_word o e.slot)) (refs j.heap) k in
          let b = and_parts (eqb m.0.target at) (not (has_word o m.0.slot)) m.2 in
          by_ref m.0 (ref_moved i set l j g.built a g.moved m.0 m.1) (eqb-true m.0.target at b.0) b.1
    ]
      where
        by_ref : (e : Ref) → RefMoved i set l e → e.target ≡ at → not (has_word o e.slot) ≡ true → (x : Lead) × Contains (leads_to h set l r) x
        by_ref e m target off =
            let before : m.before ≡ at = back m.before (before_kept i set l j g.built a g.moved e m) (m.moved_to ∙ target) in
            let reads : word h (m.owner.at + m.m) ≡ suc at = m.word_before ∙ ap suc before in
            elim (kept_cases h set l g.sound a m.owner m.is_kept) [
              | inl y ↦
                  let fits = kept_refs i set l j g.built a g.moved m.owner m.is_kept in
                  let less : m.m < m.owner.size = omega (arith, fits, m.within) in
                  let place : e.slot ≡ m.owner.at + m.m = m.slot ∙ ap (λ z. z + m.m) (outside_stays h set l g.sound a m.owner.at y.0) in
                  let ref : Contains (refs h) (record { slot = m.owner.at + m.m; target = at }) =
                  ref_of h (record { slot = m.owner.at + m.m; target = at }) (record { owner = m.owner; is_one = y.1; m = m.m; above = m.above; within = m.within; at = refl; names = reads }) in
                  let no_word : has_word o (m.owner.at + m.m) ≡ false = false_from_ne_true (has_word o (m.owner.at + m.m)) (λ z. false≢true (sym (ap not (ap (has_word o) place ∙ z)) ∙ off)) in
                  of_slot (m.owner.at + m.m) ref (window_is (region_of h (m.owner.at + m.m))
                  ∙ either (in_set h set (m.owner.at + m.m)) (has (run h r) (region_of h (m.owner.at + m.m))) (slot_outside m.owner m.m y.1 less y.0) (own_word m.owner m.m y.1 less ∙ no_word))
              | inr y ↦
                  let word_of : word h (y.0 + m.m) ≡ suc at = ap (λ (q : Object). word h (q.at + m.m)) y.2 ∙ reads in
                  let few : m.m ≤ (object_at h y.0).refs = subst (λ (q : Object). m.m ≤ q.refs) (sym y.2) m.within in
                  of_found (Contains-flat_map (targets h) l y.0 at y.1 (slot_names i set l j g.built a g.moved (object_at h y.0) m.m at m.above few word_of))
            ]

    -- the moved reference names it
    named_by : (k : Object) (m : ℕ) → Contains (kept h set l) k → 0 < m → m ≤ k.refs → word h (k.at + m) ≡ suc at → has_word o (f k.at + m) ≡ false → is_named j.heap o ≡ true
    named_by k m c above within reads off =
        let e : Ref = record { slot = f k.at + m; target = at } in
        let moved_ref : IsMovedRef h set l e = record { owner = k; is_kept = c; m = m; above = above; within = within; target = at; names = reads; slot_at = refl; target_at = sym stays } in
        let ref : Contains (refs j.heap) e = (refs_moved i set l j g.built a g.moved e).1 moved_ref in
        let any : list_any (λ e. eqb e.target at && not (has_word o e.slot)) (refs j.heap) ≡ true =
        any_from_in (λ (e : Ref). eqb e.target at && not (has_word o e.slot)) (refs j.heap) e ref (and_from (eqb at at) (not (has_word o (f k.at + m))) (eq-eqb at at refl) (ap not off)) in
        ap (λ b. has (root_targets j.heap) at || b) any ∙ last (has (root_targets j.heap) at)
      where
        last : (b : Bool) → (b || true) ≡ true
        last true = refl
        last false = refl

    leads_named : (x : Lead) → Contains (leads_to h set l r) x → is_named j.heap o ≡ true
    leads_named x k =
        let all : List Lead = root_leads h ++ (slot_leads h (set ++ run h r) ++ found_leads h l (length l)) in
        let m = filter_member (λ x. eqb x.target at) all x k in
        let target : x.target ≡ at = eqb-true x.target at m.1 in
        elim (Contains-append_cases (root_leads h) (slot_leads h (set ++ run h r) ++ found_leads h l (length l)) x m.0) [
          | inl y ↦ by_root target y
          | inr y ↦ elim (Contains-append_cases (slot_leads h (set ++ run h r)) (found_leads h l (length l)) x y) [
            | inl z ↦ by_slot target z
            | inr z ↦ by_found target z
          ]
        ]
      where
        by_root : x.target ≡ at → Contains (root_leads h) x → is_named j.heap o ≡ true
        by_root target y =
            let n : Contains (root_targets h) at =
            subst (Contains (root_targets h)) target (subst (λ xs. Contains xs x.target) (root_part h set) (Contains-map (λ (l : Lead). l.target) (root_leads h) x y)) in
            let mapped : Contains (map (forward h l) (root_targets h)) at = subst (Contains (map (forward h l) (root_targets h))) stays (Contains-map (forward h l) (root_targets h) at n) in
            let named : has (root_targets j.heap) at ≡ true = has_from_contains (root_targets j.heap) at (subst (λ xs. Contains xs at) (sym (roots_renamed (forward h l) h.roots)) mapped) in
            ap (λ b. b || list_any (λ e. eqb e.target at && not (has_word o e.slot)) (refs j.heap)) named

        by_slot : x.target ≡ at → Contains (slot_leads h (set ++ run h r)) x → is_named j.heap o ≡ true
        by_slot target y =
            let t = slot_tells h (set ++ run h r) x y in
            let w = slot_of h t.ref t.there in
            let less : w.m < w.owner.size = omega (arith, g.sound.slots_fit w.owner w.is_one, w.within) in
            let both = or_parts (has set (region_of h (w.owner.at + w.m))) (has (run h r) (region_of h (w.owner.at + w.m)))
            (sym (window_is (region_of h (w.owner.at + w.m))) ∙ ap (λ z. has (set ++ run h r) (region_of h z)) (sym w.at) ∙ t.outside) in
            let out : in_set h set w.owner.at ≡ false = false_from_ne_true (in_set h set w.owner.at) (λ z. false≢true (sym both.0 ∙ slot_home w.owner w.m w.is_one less z)) in
            let place : f w.owner.at ≡ w.owner.at = outside_stays h set l g.sound a w.owner.at out in
            let reads : word h (w.owner.at + w.m) ≡ suc at = ap (word h) (sym w.at) ∙ w.names ∙ ap suc (sym t.target ∙ target) in
            named_by w.owner w.m (kept_outside i set l j g.sound a g.moved w.owner w.is_one out) w.above w.within reads
            (ap (λ z. has_word o (z + w.m)) place ∙ sym (own_word w.owner w.m w.is_one less) ∙ both.1)

        by_found : x.target ≡ at → Contains (found_leads h l (length l)) x → is_named j.heap o ≡ true
        by_found target y =
            let t = found_tells h set l (length l) x y in
            let b : ℕ = slice_index l t.place in
            let k : Contains l (slice_index l t.place) = Contains-get_or l t.place 0 t.below in
            let m : ℕ = 1 + t.number in
            let z : slice_index l t.place + (1 + t.number) ≡ slice_index l t.place + 1 + t.number = omega arith in
            let reads : word h (slice_index l t.place + (1 + t.number)) ≡ suc at = ap (word h) z ∙ t.reads ∙ ap suc target in
            let c = survivor_kept i set l j g.sound a g.moved (slice_index l t.place) k in
            let fits = kept_refs i set l j g.built a g.moved (object_at h (slice_index l t.place)) c in
            let goal = survivor_region h set l g.sound a (slice_index l t.place) (1 + t.number) k (omega (arith, fits, t.fits)) in
            let free : kind h (region_of h (f (slice_index l t.place) + (1 + t.number))) ≡ Free =
            ap (kind h) goal.2 ∙ (is_free_region h (get_or (free_regions h) goal.0 0) (Contains-get_or (free_regions h) goal.0 0 (let fewer = a.room in omega (arith, goal.1, fewer)))).0 in
            named_by (object_at h (slice_index l t.place)) (1 + t.number) c (omega arith) (omega (arith, t.fits)) reads
            (false_from_ne_true (has_word o (f (slice_index l t.place) + (1 + t.number))) (λ e.
            let both = and_parts (leb at (f (slice_index l t.place) + (1 + t.number))) (ltb (f (slice_index l t.place) + (1 + t.number)) (at + o.size)) e in
            let low = leb-true at (f (slice_index l t.place) + (1 + t.number)) both.0 in
            let high = ltb-true (f (slice_index l t.place) + (1 + t.number)) (at + o.size) both.1 in
            let same : at + (f (slice_index l t.place) + (1 + t.number) - at) ≡ f (slice_index l t.place) + (1 + t.number) = omega (arith, low) in
            (word_used h g.built r o (f (slice_index l t.place) + (1 + t.number) - at) o_home.0 (omega (arith, low, high))).1 (ap (λ q. kind h (region_of h q)) same ∙ free)))

    -- the object is named exactly if a reference counts
    named_is : is_named j.heap o ≡ not (is_nothing (first_keeper (leads_to h set l r)))
    named_is = same_test (is_named j.heap o) (not (is_nothing (first_keeper (leads_to h set l r))))
        (λ t. let m = named_leads t in lead_first (leads_to h set l r) m.0 m.1) (λ t. let m = some_lead (leads_to h set l r) t in leads_named m.0 m.1)

  not_twice : (b : Bool) → not (not b) ≡ b
  not_twice true = refl
  not_twice false = refl

  -- what nothing names in one region
  one_region : (r : ℕ) (b : Bool) → r < h.geometry.n → is_first (kind h r) ≡ b
      → map (λ (o : Object). region_of h o.at) (filter (λ o. not (is_named j.heap o)) (filter (λ o. is_first (kind j.heap (region_of j.heap o.at))) (objects_in j.heap r)))
      ≡ cond (is_nothing (keeper_of h set l r)) (r ∷ []) []
  one_region r false lt e =
      ap (λ os. map (λ (o : Object). region_of h o.at) (filter (λ o. not (is_named j.heap o)) os))
      (none_passes (λ (o : Object). is_first (kind j.heap (region_of j.heap o.at))) (objects_in j.heap r)
      (λ o k. ap (λ x. is_first (kind j.heap x)) (after.in_region r o k) ∙ kind_tells i set l tracked a r lt e))
      ∙ ap (λ b. cond (is_nothing (cond b (first_keeper (leads_to h set l r)) NoObject)) (r ∷ []) []) (sym e)
    where
      after : IsSound j.heap
      after = built_is_sound j.heap (built j.heap (moved_tracked i set l tracked a).image.heap)
  one_region r true lt e =
      let kind_is : kind h r ≡ HumongousFirst = first_by_test (kind h r) e in
      let same_kind : kind j.heap r ≡ HumongousFirst =
      (humongous_shape i set l j g.built a g.moved r lt
      (λ z. let clash : HumongousFirst ≡ Free = sym kind_is ∙ z in cc) (λ z. let clash : HumongousFirst ≡ Ordinary = sym kind_is ∙ z in cc)).0 ∙ kind_is in
      let stands : objects_in j.heap r ≡ object_at j.heap (start h r) ∷ [] = ap (λ k. objects_by k j.heap r) same_kind in
      let home : region_of h (start h r) ≡ r = there r lt e in
      let first : is_first (kind j.heap (region_of j.heap (start h r))) ≡ true = ap (λ x. is_first (kind j.heap x)) home ∙ ap is_first same_kind in
      let named : is_named j.heap (object_at j.heap (start h r)) ≡ not (is_nothing (first_keeper (leads_to h set l r))) = ap (is_named j.heap) (object_same r lt e) ∙ named_is r lt e in
      ap (λ os. map (λ (o : Object). region_of h o.at) (filter (λ o. not (is_named j.heap o)) (filter (λ o. is_first (kind j.heap (region_of j.heap o.at))) os))) stands
      ∙ (λ q. map (λ (o : Object). region_of h o.at) (filter (λ o. not (is_named j.heap o)) (cond (first q) (object_at j.heap (start h r) ∷ []) [])))
      ∙ alone (is_named j.heap (object_at j.heap (start h r)))
      ∙ (λ q. cond (not (named q)) (home q ∷ []) [])
      ∙ ap (λ b. cond b (r ∷ []) []) (not_twice (is_nothing (first_keeper (leads_to h set l r))))
      ∙ ap (λ b. cond (is_nothing (cond b (first_keeper (leads_to h set l r)) NoObject)) (r ∷ []) []) (sym e)
    where
      alone : (b : Bool) → map (λ (o : Object). region_of h o.at) (cond (not b) (object_at j.heap (start h r) ∷ []) []) ≡ cond (not b) (region_of h (start h r) ∷ []) []
      alone true = refl
      alone false = refl

  -- THOSE THAT NOTHING KEEPS are those that are freed
  pub freed_unkept : map (λ (o : Object). region_of h o.at) (unnamed (heap_moved h set l)) ≡ unkept h set l
  freed_unkept =
      by_number (λ (o : Object). region_of h o.at) (λ o. not (is_named j.heap o)) (λ o. is_first (kind j.heap (region_of j.heap o.at))) (objects_in j.heap) (λ r. is_nothing (keeper_of h set l r)) (regions h)
      (λ r k. one_region r (is_first (kind h r)) (let b = range_bounds 0 h.geometry.n r k in omega (arith, b.1)) refl)

-- the steps of a pause free those that nothing keeps
pub steps_free : (i : Image) (set : List ℕ) (o : Outcome) → IsTracked i → IsOutcome i set o → FreesUnkept i.heap o
steps_free i set (Ready p q) tracked (pause, made) = made.humongous ∙ freed_unkept i set p.survivors tracked made.room ∙ ap (λ s. unkept i.heap s p.survivors) (sym pause.same)
steps_free i set (NoRoom survivors need free) tracked lacks = tt
