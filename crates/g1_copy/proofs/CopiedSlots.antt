-- The slots of the survivors at their places.
use Rattle.std.proofs.Common.{◌≡◌, ◌≢◌, ◌≤◌, ◌<◌, ℕ, zero, suc, ◌+◌, ◌*◌, ◌/◌, ◌%◌, inl, inr, Bool, true, false, not, List, length, get_or, filter, All, Contains, arith, refl, ap, subst}
use Rattle.std.proofs.Common.{◌∙◌, eqb, div-add-mod', flat_map, take, sym}
use Rattle.std.specs.List.{range_with_len}
use Rattle.std.proofs.lemmas.List.{get_or_default, get_or-take, length-take}
use Rattle.std.proofs.Math.Nat.{mul-le-mul_right}
use Rattle.std.proofs.lemmas.List.Elements.{Contains-get_or}
use Rattle.g1_words.specs.declared.object.Object.{Object}
use Rattle.g1_words.specs.Heap.{Heap, object_at, objects, region_of, word}
use Rattle.g1_words.specs.Layout.{forward, free_regions, need, places}
use Rattle.g1_words.specs.Lists.{has}
use Rattle.g1_words.specs.Valid.{HasObject, IsValid}
use Rattle.g1_words.proofs.Bounds.{object_within}
use Rattle.g1_words.proofs.Computed.{contains_has, has_contains}
use Rattle.g1_words.proofs.Indices.{is_free_region, range_bounds, taken_in}
use Rattle.g1_words.proofs.Members.{filter_member, flat_map_cases, has_from_contains, Contains-from_has, map_cases}
use Rattle.g1_words.proofs.OneToOne.{moved_stays}
use Rattle.g1_words.proofs.Sound.{sound}
use Rattle.g1_words.specs.Copy.{renamed}
use Rattle.g1_layout.proofs.Stretches.{forward_at, within_region}
use Rattle.g1_layout.specs.Placed.{CanPlace}
use Rattle.g1_copy.proofs.GatheringWords.{places_apart}
use Rattle.g1_copy.specs.Links.{moved_slots}

module _ (h : Heap) (set l : List ℕ) (valid : IsValid h) (can : CanPlace h set l) (room : need h l ≤ length (free_regions h)) where
  -- a survivor is an object of the heap
  pub survivor_has : (a : ℕ) → Contains l a → HasObject h (object_at h a)
  survivor_has a c =
      contains_has h (object_at h a) valid.shaped (subst (λ x. Contains (objects h) (object_at h x)) c.2 (can.objects c.0 a c.1))

  -- its slots are among its words
  pub survivor_slots : (a : ℕ) → Contains l a → (object_at h a).refs < (object_at h a).size
  survivor_slots a c =
      (sound h valid).slots_fit (object_at h a) (subst (λ x. Contains (objects h) (object_at h x)) c.2 (can.objects c.0 a c.1))

  -- the survivors, one after another at their places
  abbrev Before : ℕ → ℕ → Type 0
  Before a b = forward h l a + (object_at h a).size ≤ forward h l b

  before_at : (j k : ℕ) → j < k → k < length l → Before (get_or l j 0) (get_or l k 0)
  before_at j k less lt =
      let p = places_apart h set l valid can room j k less lt in
      let fj = forward_at h set l valid can room j (omega (arith, less, lt)) in
      let fk = forward_at h set l valid can room k lt in
      omega (arith, p, fj, fk)

  -- ---- the slots of one survivor

  -- a slot of a survivor that isn't null, at its place
  pub record IsMovedSlot (a : ℕ) (x : ℕ × ℕ) : Type 0 where
    pub offset : ℕ
    pub first : 1 ≤ offset
    pub last : offset ≤ (object_at h a).refs
    pub some : word h (a + offset) ≢ 0
    pub is : (forward h l a + offset, renamed (forward h l) (word h (a + offset))) ≡ x

  not_null : (x : ℕ) → not (eqb x 0) ≡ true → x ≢ 0
  not_null zero e = λ z. let f : false ≡ true = e in cc
  not_null (suc x) e = λ z. omega (arith, z)

  pub moved_slot : (a : ℕ) (x : ℕ × ℕ) → Contains (moved_slots h l a) x → IsMovedSlot a x
  moved_slot a x i =
      let m = map_cases (λ k. (forward h l a + k, renamed (forward h l) (word h (a + k)))) (filter (λ k. not (eqb (word h (a + k)) 0)) (range_with_len 1 (object_at h a).refs)) x i in
      let f = filter_member (λ k. not (eqb (word h (a + k)) 0)) (range_with_len 1 (object_at h a).refs) m.0 m.1 in
      let b = range_bounds 1 (object_at h a).refs m.0 f.0 in
      record { offset = m.0; first = b.0; last = omega (arith, b.1); some = not_null (word h (a + m.0)) f.1; is = m.2 }

  -- the slots of the survivors before one stand below its place
  pub slots_before : (i : ℕ) → i < length l → All (λ x. x.0 ≤ forward h l (get_or l i 0)) (flat_map (moved_slots h l) (take i l))
  slots_before i lt = λ k d less. below (get_or (flat_map (moved_slots h l) (take i l)) k d) (Contains-get_or (flat_map (moved_slots h l) (take i l)) k d less) where
    below : (x : ℕ × ℕ) → Contains (flat_map (moved_slots h l) (take i l)) x → x.0 ≤ forward h l (get_or l i 0)
    below x m =
        let c = flat_map_cases (moved_slots h l) (take i l) x m in
        let a : ℕ = c.0 in
        let j = c.1 in
        let before : j.0 < i = omega (arith, j.1, length-take i l) in
        let is : get_or l j.0 0 ≡ a = get_or_default l j.0 0 a (omega (arith, before, lt)) ∙ sym (get_or-take i l j.0 a before) ∙ j.2 in
        let apart : Before a (get_or l i 0) = subst (λ b. Before b (get_or l i 0)) is (before_at j.0 i before lt) in
        let s = moved_slot a x c.2 in
        let at : forward h l a + s.offset ≡ x.0 = ap (λ (z : ℕ × ℕ). z.0) s.is in
        omega (arith, apart, at, s.last, survivor_slots a (taken_in i l a c.1))

  -- ---- what the slots name is there

  -- a survivor's place and its last word lie in the heap
  pub place_within : (a : ℕ) → Contains l a → forward h l a + (object_at h a).size ≤ h.geometry.n * h.geometry.w
  place_within a i =
      let r : ℕ = region_of h (forward h l a) in
      let w = within_region h set l valid can room a i in
      let free = is_free_region h r (taken_in (need h l) (free_regions h) r w.0) in
      let parts : forward h l a / h.geometry.w * h.geometry.w + forward h l a % h.geometry.w ≡ forward h l a = div-add-mod' (forward h l a) h.geometry.w in
      let rows : (r + 1) * h.geometry.w ≤ h.geometry.n * h.geometry.w = mul-le-mul_right h.geometry.w (omega (arith, free.1)) in
      omega (arith, w.1, parts, rows)

  -- what stands at an address goes to an address of the heap
  pub forward_below : (o : Object) → HasObject h o → forward h l o.at < h.geometry.n * h.geometry.w
  forward_below o there = go (has l o.at) refl where
    go : (b : Bool) → has l o.at ≡ b → forward h l o.at < h.geometry.n * h.geometry.w
    go true e =
        let i = Contains-from_has l o.at e in
        let p = place_within o.at i in
        let s = survivor_slots o.at i in
        omega (arith, p, s)
    go false e =
        let stays : forward h l o.at ≡ o.at = moved_stays l (places h l) o.at (λ i. let t = has_from_contains l o.at i in cc) in
        let ends = object_within h valid o there in
        let s = (sound h valid).slots_fit o (has_contains h o there) in
        omega (arith, stays, ends, s)

  -- what a slot of a survivor names afterwards
  pub slot_named : (a k : ℕ) → Contains l a → 1 ≤ k → k ≤ (object_at h a).refs → renamed (forward h l) (word h (a + k)) ≤ h.geometry.n * h.geometry.w
  slot_named a k i low high = elim (valid.slots (object_at h a) (a + k) (survivor_has a i) (omega (arith, low), omega (arith, high))) [
    | inl null ↦ let to : renamed (forward h l) (word h (a + k)) ≡ 0 = ap (renamed (forward h l)) null in omega (arith, to)
    | inr (o, there, e) ↦
        let to : renamed (forward h l) (word h (a + k)) ≡ suc (forward h l o.at) = ap (renamed (forward h l)) (e ∙ one_more o.at) in
        omega (arith, to, forward_below o there)
  ]
    where
      one_more : (n : ℕ) → n + 1 ≡ suc n
      one_more n = omega arith
