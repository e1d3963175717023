-- The image after keeps the rules of a valid heap.
use Rattle.std.proofs.Common.{◌≡◌, ◌≢◌, ℕ, suc, ◌+◌, ◌-◌, ◌*◌, ◌/◌, ◌%◌, ◌^◌, ◌<◌, ◌≤◌, ◌⊎◌, inl, inr, true, false, List, get_or, filter, flat_map, min, Contains, refl, sym, ◌∙◌, ap, zero}
use Rattle.std.proofs.Common.{subst, arith, eqb, add-zero}
use Rattle.std.proofs.lemmas.Bool.{cases_Bool, cases_lt, false≢true}
use Rattle.std.proofs.lemmas.Nat.{div-mul-add}
use Rattle.std.proofs.Math.Nat.{mul-le-mul_right}
use Rattle.std.proofs.Common.{div-add-mod', mod-lt, eq-eqb}
use Rattle.g1_after.proofs.ObjectsMoved.{header_stays, objects_stay, region_moved}
use Rattle.g1_after.proofs.ObjectsOf.{kept_is_moved, kept_outside, region_cases, survivor_region, used_not_to_space}
use Rattle.g1_after.proofs.SameGraphs.{live_found, named_survives}
use Rattle.g1_after.proofs.ToSpace.{goal_is_free, goal_kind, goal_top, object_copied, survivor_kept, survivor_object, to_space_objects, to_space_tiled}
use Rattle.g1_image.specs.Image.{Image}
use Rattle.g1_after.specs.Moved.{IsMoved}
use Rattle.g1_words.proofs.Computed.{Contains-range}
use Rattle.g1_words.proofs.Members.{Contains-filter, Contains-flat_map, Contains-map, filter_member, Contains-from_has, map_cases}
use Rattle.g1_words.proofs.OneToOne.{kept_cases, kept_object, outside_stays, survivor_fits, survivor_in_set, target_in_refs}
use Rattle.g1_words.proofs.Shapes.{BeginsRun, IsBuilt, IsBuiltBy, IsPlain, IsTiled, TakesRun}
use Rattle.g1_words.proofs.Sound.{IsSound}
use Rattle.g1_words.proofs.Standing.{home, home_region, run_object, stands, tiled_member, tiled_same, built_is_sound, w_pos, word_in_ordinary, word_used}
use Rattle.g1_words.specs.Geometry.{Geometry}
use Rattle.g1_words.specs.Heap.{free_region, kind, object_at, objects, objects_in, region, region_of, regions, slots, top, word}
use Rattle.g1_words.specs.Layout.{forward, free_regions, kept, need, to_space, HasRoom}
use Rattle.g1_words.specs.Lists.{has}
use Rattle.g1_words.specs.Live.{seed}
use Rattle.g1_words.specs.Moves.{moved_object}
use Rattle.g1_words.specs.References.{named, root_targets}
use Rattle.g1_words.specs.Survivors.{in_set}
use Rattle.g1_words.specs.declared.object.Object.{Object}
use Rattle.g1_words.specs.declared.region.Kind.{Kind}
use Rattle.g1_words.specs.declared.region.Kind.TheVariants.{Continuation, Free, HumongousFirst, Ordinary}
use Rattle.g1_words.specs.declared.region.Region.{Region}

module _ (i : Image) (set l : List ℕ) (j : Image) (valid : IsBuilt i.heap) (room : HasRoom i.heap set l) (moved : IsMoved i set l j) where
  pub sound_before : IsSound i.heap
  sound_before = built_is_sound i.heap valid

  -- a survivor was plain
  pub survivor_plain : (a : ℕ) → Contains l a → IsPlain i.heap (object_at i.heap a)
  survivor_plain a k =
      let o : Object = object_at i.heap a in
      let m = home i.heap valid o (survivor_object i set l j sound_before room moved a k) in
      let one : kind i.heap (region_of i.heap a) ≡ Ordinary = room.ordinary (region_of i.heap a)
      (Contains-from_has set (region_of i.heap a) (survivor_in_set i.heap set l sound_before room a k)) in
      let at : region_of i.heap a ≡ m.0 = home_region i.heap valid m.0 o m.2 in
      let one' : kind i.heap m.0 ≡ Ordinary = ap (kind i.heap) (sym at) ∙ one in
      elim m.2.2 [ inl x ↦ x.plain | inr x ↦ let clash : HumongousFirst ≡ Ordinary = sym x.kind ∙ one' in cc ]

  pub kept_refs : (k : Object) → Contains (kept i.heap set l) k → k.refs < k.size
  kept_refs k m = sound_before.slots_fit k (kept_object i.heap set l sound_before room k m)

  -- a word of a kept object outside the set lies in a used region that isn't in the set
  pub outside_word : (k : Object) (m : ℕ) → Contains (objects i.heap) k → in_set i.heap set k.at ≡ false → m < k.size
      → (region_of i.heap (k.at + m) < i.heap.geometry.n) × (kind i.heap (region_of i.heap (k.at + m)) ≢ Free)
      × (k.at + m < region_of i.heap (k.at + m) * i.heap.geometry.w + top i.heap (region_of i.heap (k.at + m))) × (has set (region_of i.heap (k.at + m)) ≡ false)
  outside_word k m c out lt =
      let s = home i.heap valid k c in
      let u = word_used i.heap valid s.0 k m s.2 lt in (
        u.0,
        u.1,
        u.2,
        elim (cases_Bool (has set (region_of i.heap (k.at + m)))) [
          | inr f ↦ f
          | inl t ↦
              let one : kind i.heap (region_of i.heap (k.at + m)) ≡ Ordinary = room.ordinary (region_of i.heap (k.at + m))
              (Contains-from_has set (region_of i.heap (k.at + m)) t) in
              let w = word_in_ordinary i.heap valid s.0 k m s.2 lt one in
              let same : region_of i.heap (k.at + m) ≡ region_of i.heap k.at = w.1 ∙ sym (home_region i.heap valid s.0 k s.2) in
              absurd (false≢true (sym out ∙ ap (has set) (sym same) ∙ t))
        ],
      )

  -- the kind and top of a region, by cases
  pub set_shape : (r : ℕ) → r < i.heap.geometry.n → has set r ≡ true → (kind j.heap r ≡ Free) × (top j.heap r ≡ 0)
  set_shape r lt t =
      let q : region j.heap r ≡ free_region = region_moved i set l j sound_before room moved r lt ∙ rw t refl in
      (ap (λ (q : Region). q.kind) q, ap (λ (q : Region). q.top) q)

  pub other_shape : (r : ℕ) → r < i.heap.geometry.n → has set r ≡ false → has (to_space i.heap l) r ≡ false → (kind j.heap r ≡ kind i.heap r) × (top j.heap r ≡ top i.heap r)
  other_shape r lt a b =
      let q : region j.heap r ≡ region i.heap r = region_moved i set l j sound_before room moved r lt ∙ rw (a, b) refl in
      (ap (λ (q : Region). q.kind) q, ap (λ (q : Region). q.top) q)

  -- a region that is neither free nor ordinary stays as it is
  pub humongous_shape : (r : ℕ) → r < i.heap.geometry.n → kind i.heap r ≢ Free → kind i.heap r ≢ Ordinary → (kind j.heap r ≡ kind i.heap r) × (top j.heap r ≡ top i.heap r)
  humongous_shape r lt a b =
      other_shape r lt
      (elim (cases_Bool (has set r)) [ inr f ↦ f | inl t ↦ absurd (b (room.ordinary r (Contains-from_has set r t))) ])
      (used_not_to_space i.heap set l sound_before room r a)

  -- an object outside the set stays as it is
  pub object_stays : (o : Object) → Contains (objects i.heap) o → in_set i.heap set o.at ≡ false → object_at j.heap o.at ≡ o
  object_stays o c out =
      let s = home i.heap valid o c in
      let w : word j.heap o.at ≡ word i.heap o.at = header_stays i set l j sound_before room moved o c out in
      (λ t. record { at = o.at; size = w t / 2 ^ 32; refs = w t % 2 ^ 32 }) ∙ sym s.2.1

  first_stays : (r : ℕ) → r < i.heap.geometry.n → kind i.heap r ≡ HumongousFirst → BeginsRun i.heap r → object_at j.heap (r * j.heap.geometry.w) ≡ object_at i.heap (r * i.heap.geometry.w)
  first_stays r lt two first =
      let o : Object = object_at i.heap (r * i.heap.geometry.w) in
      let k : Contains (objects_in i.heap r) o = run_object i.heap (w_pos i.heap valid) r two first in
      let c : Contains (objects i.heap) o = Contains-flat_map (objects_in i.heap) (regions i.heap) r o (Contains-range 0 i.heap.geometry.n r (omega arith) (omega arith)) k in
      let at : region_of i.heap o.at ≡ r = home_region i.heap valid r o (stands i.heap valid r o k) in
      let out : has set r ≡ false = elim (cases_Bool (has set r)) [
        | inr f ↦ f
        | inl t ↦ let clash : Ordinary ≡ HumongousFirst = sym (room.ordinary r (Contains-from_has set r t)) ∙ two in cc
      ] in
      ap (λ y. object_at j.heap (r * y)) (ap (λ (g : Geometry). g.w) moved.geometry) ∙ object_stays o c (ap (has set) at ∙ out)

  other_by : (r : ℕ) (k : Kind) → r < i.heap.geometry.n → has set r ≡ false → has (to_space i.heap l) r ≡ false → kind i.heap r ≡ k → IsBuiltBy i.heap r k → IsBuiltBy j.heap r k
  other_by r Free lt a b e s = (other_shape r lt a b).1 ∙ s
  other_by r Ordinary lt a b e s =
      let t = (other_shape r lt a b).1 in
      let w = ap (λ (g : Geometry). g.w) moved.geometry in
      let here : Contains (regions i.heap) r = Contains-range 0 i.heap.geometry.n r (omega arith) (omega arith) in
      let os : objects_in j.heap r ≡ objects_in i.heap r = objects_stay i set l j sound_before room moved r lt a b in
      let tiled : IsTiled j.heap (r * i.heap.geometry.w) (objects_in i.heap r) (r * i.heap.geometry.w + top i.heap r) =
      tiled_same i.heap j.heap (r * i.heap.geometry.w) (objects_in i.heap r) (r * i.heap.geometry.w + top i.heap r) w
      (λ o m. object_stays o (Contains-flat_map (objects_in i.heap) (regions i.heap) r o here m)
      (ap (has set) (sound_before.in_region r o m) ∙ a)) s.2 in
      let x = s.0 in let y = s.1 in (
        omega arith,
        omega arith,
        subst (λ y. IsTiled j.heap (r * y) (objects_in j.heap r) (r * y + top j.heap r)) (sym w)
            (subst (λ y. IsTiled j.heap (r * i.heap.geometry.w) (objects_in j.heap r) (r * i.heap.geometry.w + y)) (sym t)
            (subst (λ xs. IsTiled j.heap (r * i.heap.geometry.w) xs (r * i.heap.geometry.w + top i.heap r)) (sym os) tiled)),
      )
  other_by r HumongousFirst lt a b e s =
      let E : object_at j.heap (r * j.heap.geometry.w) ≡ object_at i.heap (r * i.heap.geometry.w) = first_stays r lt e s in
      let w = ap (λ (g : Geometry). g.w) moved.geometry in let n = ap (λ (g : Geometry). g.n) moved.geometry in
      record {
        refs = subst (λ (o : Object). o.refs < o.size) (sym E) s.refs;
        humongous = subst (λ (o : Object). 3 * j.heap.geometry.w < 4 * o.size) (sym E) (subst (λ y. 3 * y < 4 * (object_at i.heap (r * i.heap.geometry.w)).size) (sym w) s.humongous);
        run = subst (λ (o : Object). TakesRun j.heap r o.size) (sym E) (λ q less.
            let less' : q * i.heap.geometry.w < (object_at i.heap (r * i.heap.geometry.w)).size = subst (λ y. q * y < (object_at i.heap (r * i.heap.geometry.w)).size) w less in
            let k = s.run q less' in
            let kind_is : (kind i.heap (r + q) ≡ HumongousFirst) ⊎ (kind i.heap (r + q) ≡ Continuation) = elim (cases_lt 0 q) [
              | inl p ↦ inr (k.2 p)
              | inr z ↦ let same : r + q ≡ r = omega arith in inl (ap (kind i.heap) same ∙ e)
            ] in
            let shape : (kind j.heap (r + q) ≡ kind i.heap (r + q)) × (top j.heap (r + q) ≡ top i.heap (r + q)) = elim kind_is [
              | inl z ↦ humongous_shape (r + q) k.0 (λ x. let clash : HumongousFirst ≡ Free = sym z ∙ x in cc) (λ x. let clash : HumongousFirst ≡ Ordinary = sym z ∙ x in cc)
              | inr z ↦ humongous_shape (r + q) k.0 (λ x. let clash : Continuation ≡ Free = sym z ∙ x in cc) (λ x. let clash : Continuation ≡ Ordinary = sym z ∙ x in cc)
            ] in (
              subst (λ y. r + q < y) (sym n) k.0,
              shape.1 ∙ k.1 ∙ ap (λ y. min y ((object_at i.heap (r * i.heap.geometry.w)).size - q * y)) (sym w),
              (λ p. shape.0 ∙ k.2 p),
            ));
      }
  other_by r Continuation lt a b e s =
      let first : ℕ = s.0 in
      let two : kind i.heap first ≡ HumongousFirst = s.1 in
      let below : first < r = s.2 in
      let shape = humongous_shape first (omega arith) (λ x. let clash : HumongousFirst ≡ Free = sym two ∙ x in cc) (λ x. let clash : HumongousFirst ≡ Ordinary = sym two ∙ x in cc) in
      let f : BeginsRun i.heap first = subst (IsBuiltBy i.heap first) two (valid.shaped first (omega arith)) in
      let E = first_stays first (omega arith) two f in (
        first,
        shape.0 ∙ two,
        below,
        subst (λ (o : Object). (r - first) * j.heap.geometry.w < o.size) (sym E)
            (subst (λ y. (r - first) * y < (object_at i.heap (first * i.heap.geometry.w)).size) (sym (ap (λ (g : Geometry). g.w) moved.geometry)) s.3),
      )

  placed_plain : (t : ℕ) → t < need i.heap l → (o : Object) → Contains (objects_in j.heap (get_or (free_regions i.heap) t 0)) o → IsPlain j.heap o
  placed_plain t here o m =
      let r : ℕ = get_or (free_regions i.heap) t 0 in
      let e = to_space_objects i set l j sound_before room moved t here in
      let c = map_cases (λ a. moved_object (forward i.heap l) (object_at i.heap a)) (filter (λ a. eqb (region_of i.heap (forward i.heap l a)) r) l) o (subst (λ xs. Contains xs o) e m) in
      let d = (filter_member (λ a. eqb (region_of i.heap (forward i.heap l a)) r) l c.0 c.1).0 in
      subst (λ (x : Object). IsPlain j.heap x) c.2 (subst (λ y. ((object_at i.heap c.0).refs < (object_at i.heap c.0).size)
      × (4 * (object_at i.heap c.0).size ≤ 3 * y)) (sym (ap (λ (g : Geometry). g.w) moved.geometry)) (survivor_plain c.0 d))

  goal_shape : (t : ℕ) → t < need i.heap l → IsBuiltBy j.heap (get_or (free_regions i.heap) t 0) Ordinary
  goal_shape t here =
      let g = goal_top i set l j sound_before room moved t here in (
        g.0,
        subst (λ y. top j.heap (get_or (free_regions i.heap) t 0) ≤ y) (sym (ap (λ (g : Geometry). g.w) moved.geometry)) g.1,
        to_space_tiled i set l j sound_before room moved t here (placed_plain t here),
      )

  pub shaped_moved : (r : ℕ) → r < i.heap.geometry.n → IsBuiltBy j.heap r (kind j.heap r)
  shaped_moved r lt = elim (region_cases i.heap set l sound_before room r) [
    | inl t ↦ let s = set_shape r lt t in subst (IsBuiltBy j.heap r) (sym s.0) s.1
    | inr (inl b) ↦ subst (λ x. IsBuiltBy j.heap x (kind j.heap x)) b.2
        (subst (IsBuiltBy j.heap (get_or (free_regions i.heap) b.0 0)) (sym (goal_kind i set l j sound_before room moved b.0 b.1)) (goal_shape b.0 b.1))
    | inr (inr b) ↦ let s = other_shape r lt b.0 b.1 in subst (IsBuiltBy j.heap r) (sym s.0) (other_by r (kind i.heap r) lt b.0 b.1 refl (valid.shaped r lt))
  ]

  -- where a survivor stands
  pub survivor_there : (a : ℕ) → Contains l a → (t : ℕ) × (t < need i.heap l) × Contains (objects_in j.heap (get_or (free_regions i.heap) t 0)) (moved_object (forward i.heap l) (object_at i.heap a))
  survivor_there a k =
      let f : ℕ → ℕ = forward i.heap l in
      let pos = (survivor_fits i.heap set l sound_before room a k).0 in
      let t = survivor_region i.heap set l sound_before room a 0 k pos in
      let r : ℕ = get_or (free_regions i.heap) t.0 0 in
      let at : region_of i.heap (f a) ≡ r = ap (λ y. y / i.heap.geometry.w) (sym (add-zero (f a))) ∙ t.2 in
      let e = to_space_objects i set l j sound_before room moved t.0 t.1 in (
        t.0,
        t.1,
        subst (λ xs. Contains xs (moved_object f (object_at i.heap a))) (sym e)
            (Contains-map (λ a. moved_object f (object_at i.heap a)) (filter (λ a. eqb (region_of i.heap (f a)) r) l) a
            (Contains-filter (λ a. eqb (region_of i.heap (f a)) r) l a k (eq-eqb (region_of i.heap (f a)) r at))),
      )

  -- a word of a survivor lies in its region, below top
  pub survivor_word : (a m : ℕ) → Contains l a → m < (object_at i.heap a).size
      → (t : ℕ) × (t < need i.heap l) × (region_of i.heap (forward i.heap l a + m) ≡ get_or (free_regions i.heap) t 0)
      × (forward i.heap l a + m < get_or (free_regions i.heap) t 0 * i.heap.geometry.w + top j.heap (get_or (free_regions i.heap) t 0))
  survivor_word a m k lt =
      let s = survivor_there a k in
      let r : ℕ = get_or (free_regions i.heap) s.0 0 in
      let g = goal_shape s.0 s.1 in
      let tiled : IsTiled j.heap (r * i.heap.geometry.w) (objects_in j.heap r) (r * i.heap.geometry.w + top j.heap r) =
      subst (λ y. IsTiled j.heap (r * y) (objects_in j.heap r) (r * y + top j.heap r)) (ap (λ (g : Geometry). g.w) moved.geometry) g.2 in
      let b = tiled_member j.heap (r * i.heap.geometry.w) (objects_in j.heap r) (r * i.heap.geometry.w + top j.heap r) tiled (moved_object (forward i.heap l) (object_at i.heap a)) s.2 in
      let x : ℕ = forward i.heap l a + m - r * i.heap.geometry.w in
      let low = b.0 in let high = b.1 in let t = g.1 in let w = ap (λ (g : Geometry). g.w) moved.geometry in
      let e : forward i.heap l a + m ≡ r * i.heap.geometry.w + x = omega arith in
      (s.0, s.1, ap (λ y. y / i.heap.geometry.w) e ∙ div-mul-add r i.heap.geometry.w x (omega arith), omega arith)

  below_total : (a : ℕ) → region_of i.heap a < i.heap.geometry.n → a < i.heap.geometry.n * i.heap.geometry.w
  below_total a lt =
      let d : a / i.heap.geometry.w * i.heap.geometry.w + a % i.heap.geometry.w ≡ a = div-add-mod' a i.heap.geometry.w in
      let q : a % i.heap.geometry.w < i.heap.geometry.w = mod-lt a (w_pos i.heap valid) in
      let k : suc (a / i.heap.geometry.w) * i.heap.geometry.w ≤ i.heap.geometry.n * i.heap.geometry.w = mul-le-mul_right i.heap.geometry.w (omega arith) in
      omega arith

  -- each word of a moved object lies in the heap
  pub moved_below : (k : Object) (m : ℕ) → Contains (kept i.heap set l) k → m < k.size → forward i.heap l k.at + m < i.heap.geometry.n * i.heap.geometry.w
  moved_below k m c lt = elim (kept_cases i.heap set l sound_before room k c) [
    | inl x ↦ let u = outside_word k m x.1 x.0 lt in
        subst (λ y. y + m < i.heap.geometry.n * i.heap.geometry.w) (sym (outside_stays i.heap set l sound_before room k.at x.0)) (below_total (k.at + m) u.0)
    | inr x ↦
        let at : x.0 ≡ k.at = ap (λ (o : Object). o.at) x.2 in
        let u = survivor_word x.0 m x.1 (subst (λ (o : Object). m < o.size) (sym x.2) lt) in
        let g = goal_is_free i set l j sound_before room moved u.0 u.1 in
        subst (λ y. forward i.heap l y + m < i.heap.geometry.n * i.heap.geometry.w) at (below_total (forward i.heap l x.0 + m) (subst (λ y. y < i.heap.geometry.n) (sym u.2) g.1))
  ]

  -- an object that is a survivor if it stands in the set is kept
  pub kept_if : (b : ℕ) → Contains (objects i.heap) (object_at i.heap b) → (in_set i.heap set b ≡ true → Contains l b) → Contains (kept i.heap set l) (object_at i.heap b)
  kept_if b c f = elim (cases_Bool (in_set i.heap set b)) [
    | inl t ↦ survivor_kept i set l j sound_before room moved b (f t)
    | inr o ↦ kept_outside i set l j sound_before room moved (object_at i.heap b) c o
  ]

  -- what a root or a slot of a kept object names is kept
  pub root_kept : (b : ℕ) → Contains (root_targets i.heap) b → Contains (kept i.heap set l) (object_at i.heap b)
  root_kept b m = kept_if b (valid.root_named b m) (λ t. (room.survivors.reached b).1 (live_found i.heap set l sound_before room b (seed m) t))

  pub slot_kept : (k : Object) (b : ℕ) → Contains (kept i.heap set l) k → Contains (flat_map (λ p. named (word i.heap p)) (slots k)) b → Contains (kept i.heap set l) (object_at i.heap b)
  slot_kept k b c m =
      let e = target_in_refs i.heap set k b (kept_object i.heap set l sound_before room k c) m in
      kept_if b (subst (λ x. Contains (objects i.heap) (object_at i.heap x)) e.2 (valid.slot_named e.0 e.1))
      (λ t. named_survives i.heap set l sound_before room k b c m t)

  pub slot_names : (k : Object) (m b : ℕ) → 0 < m → m ≤ k.refs → word i.heap (k.at + m) ≡ suc b → Contains (flat_map (λ p. named (word i.heap p)) (slots k)) b
  slot_names k m b p le e =
      Contains-flat_map (λ p. named (word i.heap p)) (slots k) (k.at + m) b (Contains-range (k.at + 1) k.refs (k.at + m) (omega arith) (omega arith))
      (subst (λ x. Contains (named x) b) (sym e) (zero, omega arith, refl))

  -- the object stands in the image after
  pub object_moved : (b : ℕ) → Contains (kept i.heap set l) (object_at i.heap b) → Contains (objects j.heap) (object_at j.heap (forward i.heap l b))
  object_moved b k =
      let e : object_at j.heap (forward i.heap l b) ≡ moved_object (forward i.heap l) (object_at i.heap b) =
      object_copied i set l j sound_before room moved (object_at i.heap b) k (kept_object i.heap set l sound_before room (object_at i.heap b) k) refl in
      subst (λ (x : Object). Contains (objects j.heap) x) (sym e) (kept_is_moved i set l j sound_before room moved (object_at i.heap b) k)
