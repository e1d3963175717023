-- The new addresses: kept objects don't meet, and no two go to one address.
use Rattle.std.proofs.Common.{◌≡◌, ℕ, ◌+◌, ◌/◌, ◌%◌, ◌<◌, ◌≤◌, ◌⊎◌, inl, inr, Bool, true, false, cond, not, ◌&&◌, List, [], ◌∷◌, length, map, filter, flat_map, zip, Contains, refl, sym, ◌∙◌, zero, suc}
use Rattle.std.proofs.Common.{ap, subst, arith, eqb, eqb-true, eq-eqb, add-zero}
use Rattle.std.proofs.lemmas.Bool.{false≢true, and_parts}
use Rattle.std.proofs.lemmas.List.Elements.{Contains-append_cases}
use Rattle.g1_words.specs.declared.region.Kind.TheVariants.{Free}
use Rattle.g1_words.specs.Heap.{Heap, kind, region_of, objects, object_at, slots, word}
use Rattle.g1_words.specs.References.{Ref, refs, refs_at, named, root_targets, targets}
use Rattle.g1_words.specs.Live.{Reached, seed, child}
use Rattle.g1_words.specs.Survivors.{in_set, seeds, children}
use Rattle.g1_words.specs.Layout.{next_fit, laid, laid_end, sizes_of, need, free_regions, row_address, places, moved_to, forward, kept, HasRoom}
use Rattle.g1_words.proofs.Sound.{IsSound}
use Rattle.g1_words.proofs.Members.{Contains-flat_map, flat_map_cases, Contains-map, map_cases, filter_member, Contains-from_has}
use Rattle.g1_words.proofs.Ordered.{Ordered}
use Rattle.g1_words.proofs.NextFit.{Fitting, spots, spots_apart, spot_fits, spot_below, region_below, row_one_to_one, row_address-add, row_is_free}
use Rattle.g1_words.specs.declared.object.Object.{Object}

-- ---- survivors are objects of the set

module _ (h : Heap) (set : List ℕ) where
  pub reached_in_set : (a : ℕ) → Reached (seeds h set) (children h set) a → in_set h set a ≡ true
  reached_in_set a (seed c) =
      elim (Contains-append_cases (filter (in_set h set) (root_targets h)) (map (λ e. e.target)
      (filter (λ e. in_set h set e.target && not (in_set h set e.slot)) (refs h))) a c) [
        | inl k ↦ (filter_member (in_set h set) (root_targets h) a k).1
        | inr k ↦
            let m = map_cases (λ (e : Ref). e.target) (filter (λ e. in_set h set e.target && not (in_set h set e.slot)) (refs h)) a k in
            let t = (filter_member (λ e. in_set h set e.target && not (in_set h set e.slot)) (refs h) m.0 m.1).1 in
            subst (λ x. in_set h set x ≡ true) m.2 (and_parts (in_set h set m.0.target) (not (in_set h set m.0.slot)) t).0
      ]
  reached_in_set b (child {a = a} r c) = (filter_member (in_set h set) (targets h a) b c).1

  -- what a slot of an object names is named by a reference of the heap
  pub target_in_refs : (o : Object) (b : ℕ) → Contains (objects h) o → Contains (flat_map (λ p. named (word h p)) (slots o)) b → (e : Ref) × Contains (refs h) e × (e.target ≡ b)
  target_in_refs o b ho hb =
      let p = flat_map_cases (λ p. named (word h p)) (slots o) b hb in
      let e : Ref = record { slot = p.0; target = b } in
      let here : Contains (refs_at h p.0) e = Contains-map (λ a. record { slot = p.0; target = a }) (named (word h p.0)) b p.2 in
      (e, Contains-flat_map (λ o. flat_map (refs_at h) (slots o)) (objects h) o e ho (Contains-flat_map (refs_at h) (slots o) p.0 e p.1 here), refl)

  pub reached_object : IsSound h → (a : ℕ) → Reached (seeds h set) (children h set) a → Contains (objects h) (object_at h a)
  reached_object s a (seed c) =
      elim (Contains-append_cases (filter (in_set h set) (root_targets h)) (map (λ e. e.target)
      (filter (λ e. in_set h set e.target && not (in_set h set e.slot)) (refs h))) a c) [
        | inl k ↦ s.root_named a (filter_member (in_set h set) (root_targets h) a k).0
        | inr k ↦
            let m = map_cases (λ (e : Ref). e.target) (filter (λ e. in_set h set e.target && not (in_set h set e.slot)) (refs h)) a k in
            let t = (filter_member (λ e. in_set h set e.target && not (in_set h set e.slot)) (refs h) m.0 m.1).0 in
            subst (λ x. Contains (objects h) (object_at h x)) m.2 (s.slot_named m.0 t)
      ]
  reached_object s b (child {a = a} r c) =
      let t = (filter_member (in_set h set) (targets h a) b c).0 in
      let o = reached_object s a r in
      let e = target_in_refs (object_at h a) b o t in
      subst (λ x. Contains (objects h) (object_at h x)) e.2 (s.slot_named e.0 e.1)

-- ---- each survivor's place in the row

pub zip_second : {A B : Type 0} (xs : List A) (ys : List B) (x : A) (y : B) → Contains (zip xs ys) (x, y) → Contains ys y
zip_second [] ys x y h = absurd (omega (arith, h.1))
zip_second (a ∷ xs) [] x y h = absurd (omega (arith, h.1))
zip_second {A} {B} (a ∷ xs) (b ∷ ys) x y (zero, lt, e) = (zero, omega arith, ap (λ (p : A × B). p.1) e)
zip_second (a ∷ xs) (b ∷ ys) x y (suc k, lt, e) = let m = zip_second xs ys x y (k, omega (arith, lt), e) in (suc m.0, omega (arith, m.1), m.2)

-- of two pairs of a list with one that is ordered, the first parts are the same or the second ones are in order
pub zip_ordered : {A B : Type 0} (R : B → B → Type 0) (xs : List A) (ys : List B) → Ordered R ys → (a b : A) (x y : B) → Contains (zip xs ys) (a, x) → Contains (zip xs ys) (b, y) → (a ≡ b) ⊎ (R x y ⊎ R y x)
zip_ordered R [] ys o a b x y h k = absurd (omega (arith, h.1))
zip_ordered R (c ∷ xs) [] o a b x y h k = absurd (omega (arith, h.1))
zip_ordered {A} {B} R (c ∷ xs) (z ∷ ys) o a b x y (zero, lt, e) (zero, less, f) = inl (ap (λ (p : A × B). p.0) (sym e ∙ f))
zip_ordered {A} {B} R (c ∷ xs) (z ∷ ys) o a b x y (zero, lt, e) (suc j, less, eq) = inr (inl (subst (λ t. R t y) (ap (λ (p : A × B). p.1) e) (o.0 y (zip_second xs ys b y (j, omega (arith, less), eq)))))
zip_ordered {A} {B} R (c ∷ xs) (z ∷ ys) o a b x y (suc k, lt, e) (zero, less, f) = inr (inr (subst (λ t. R t x) (ap (λ (p : A × B). p.1) f) (o.0 x (zip_second xs ys a x (k, omega (arith, lt), e)))))
zip_ordered R (c ∷ xs) (z ∷ ys) o a b x y (suc j, lt, e) (suc i, less, eq) = zip_ordered R xs ys o.1 a b x y (j, omega (arith, lt), e) (i, omega (arith, less), eq)

module _ (h : Heap) where
  abbrev pub size_at : ℕ → ℕ
  size_at a = (object_at h a).size

  spot_at : (from : ℕ) (x : ℕ) (l : List ℕ) (a : ℕ) (b : Bool) → eqb x a ≡ b
      → (Contains l a → (q : ℕ) × Contains (zip l (zip (laid h.geometry.w (next_fit h.geometry.w from (size_at x) + size_at x) (sizes_of h l)) (sizes_of h l)))
      (a, (q, size_at a)) × (moved_to l (map (row_address h) (laid h.geometry.w (next_fit h.geometry.w from (size_at x) + size_at x) (sizes_of h l))) a ≡ row_address h q))
      → Contains (x ∷ l) a
      → (q : ℕ) × Contains (zip (x ∷ l) (zip (laid h.geometry.w from (sizes_of h (x ∷ l))) (sizes_of h (x ∷ l)))) (a, (q, size_at a))
      × (cond b (row_address h (next_fit h.geometry.w from (size_at x))) (moved_to l
      (map (row_address h) (laid h.geometry.w (next_fit h.geometry.w from (size_at x) + size_at x) (sizes_of h l))) a) ≡ row_address h q)
  spot_at from x l a true e rest k = (next_fit h.geometry.w from (size_at x), (zero, omega arith, λ t. (eqb-true x a e t, (next_fit h.geometry.w from (size_at x), size_at (eqb-true x a e t)))), refl)
  spot_at from x l a false e rest (zero, b, f) = absurd (false≢true (sym e ∙ eq-eqb x a f))
  spot_at from x l a false e rest (suc j, b, eq) = let r = rest (j, omega (arith, b), eq) in (r.0, (suc r.1.0, omega (arith, r.1.1), r.1.2), r.2)

  pub spot_of : (from : ℕ) (l : List ℕ) (a : ℕ) → Contains l a
      → (q : ℕ) × Contains (zip l (zip (laid h.geometry.w from (sizes_of h l)) (sizes_of h l))) (a, (q, size_at a))
      × (moved_to l (map (row_address h) (laid h.geometry.w from (sizes_of h l))) a ≡ row_address h q)
  spot_of from [] a k = absurd (omega (arith, k.1))
  spot_of from (x ∷ l) a k = spot_at from x l a (eqb x a) refl (spot_of (next_fit h.geometry.w from (size_at x) + size_at x) l a) k

pub moved_stays : (l ps : List ℕ) (a : ℕ) → (Contains l a → ⊥) → moved_to l ps a ≡ a
moved_stays [] ps a h = refl
moved_stays (x ∷ l) [] a h = refl
moved_stays (x ∷ l) (p ∷ ps) a h = go (eqb x a) refl (moved_stays l ps a (λ k. h (suc k.0, omega (arith, k.1), k.2)))
  where
    go : (b : Bool) → eqb x a ≡ b → moved_to l ps a ≡ a → cond b p (moved_to l ps a) ≡ a
    go true e m = absurd (h (zero, omega arith, eqb-true x a e))
    go false e m = m

-- ---- the law

module _ (h : Heap) (set l : List ℕ) (sound : IsSound h) (room : HasRoom h set l) where
  pub survivor_in_set : (a : ℕ) → Contains l a → in_set h set a ≡ true
  survivor_in_set a k = reached_in_set h set a ((room.survivors.reached a).0 k)

  pub survivor_fits : (a : ℕ) → Contains l a → (0 < size_at h a) × (size_at h a ≤ h.geometry.w)
  survivor_fits a k =
      sound.fits (object_at h a) (reached_object h set sound a ((room.survivors.reached a).0 k))
      (room.ordinary (region_of h a) (Contains-from_has set (region_of h a) (survivor_in_set a k)))

  fitting : (m : List ℕ) → ((a : ℕ) → Contains m a → (0 < size_at h a) × (size_at h a ≤ h.geometry.w)) → Fitting h.geometry.w (sizes_of h m)
  fitting [] f = tt
  fitting (a ∷ m) f = let k = f a (zero, omega arith, refl) in (k.0, k.1, fitting m (λ b i. f b (suc i.0, omega (arith, i.1), i.2)))

  pub all_fit : Fitting h.geometry.w (sizes_of h l)
  all_fit = fitting l survivor_fits

  -- a word of a survivor stands in a region of the row that is there
  pub word_in_row : (a k : ℕ) (i : Contains l a) → k < size_at h a
      → let q = (spot_of h 0 l a i).0 in (row_address h (q + k) ≡ forward h l a + k) × ((q + k) / h.geometry.w < length (free_regions h))
  word_in_row a k i lt =
      let s = spot_of h 0 l a i in
      let q : ℕ = s.0 in
      let spot : Contains (spots h.geometry.w sound.w_positive 0 (sizes_of h l)) (q, size_at h a) = zip_second l (zip (laid h.geometry.w 0 (sizes_of h l)) (sizes_of h l)) a (q, size_at h a) s.1 in
      let f = spot_fits h.geometry.w sound.w_positive 0 (sizes_of h l) all_fit (q, size_at h a) spot in
      let below = spot_below h.geometry.w sound.w_positive 0 (sizes_of h l) all_fit (q, size_at h a) spot in
      let inside : q % h.geometry.w + k < h.geometry.w = omega arith in
      let region : (q + k) / h.geometry.w < need h l = region_below h.geometry.w sound.w_positive (q + k) (laid_end h.geometry.w 0 (sizes_of h l)) (omega arith) in
      (row_address-add h sound.w_positive q k inside ∙ ap (λ x. x + k) (sym s.2), omega arith)

  -- the words of two survivors never meet
  pub survivors_apart : (a b k m : ℕ) → Contains l a → Contains l b → k < size_at h a → m < size_at h b → forward h l a + k ≡ forward h l b + m → a ≡ b
  survivors_apart a b k m i j lk lm e =
      let s = spot_of h 0 l a i in
      let t = spot_of h 0 l b j in
      let x = word_in_row a k i lk in
      let y = word_in_row b m j lm in
      let same : s.0 + k ≡ t.0 + m = row_one_to_one h sound.w_positive (s.0 + k) (t.0 + m) x.1 y.1 (x.0 ∙ e ∙ sym y.0) in
      elim (zip_ordered (λ (x y : ℕ × ℕ). x.0 + x.1 ≤ y.0) l (zip (laid h.geometry.w 0 (sizes_of h l)) (sizes_of h l))
      (spots_apart h.geometry.w sound.w_positive 0 (sizes_of h l) all_fit) a b (s.0, size_at h a) (t.0, size_at h b) s.1 t.1) [
        | inl q ↦ q
        | inr (inl r) ↦ absurd (omega arith)
        | inr (inr r) ↦ absurd (omega arith)
      ]

  -- a survivor goes into a region that was free
  pub survivor_to_free : (a : ℕ) → Contains l a → kind h (region_of h (forward h l a)) ≡ Free
  survivor_to_free a i =
      let s = spot_of h 0 l a i in
      let x = word_in_row a 0 i (survivor_fits a i).0 in
      let e : forward h l a ≡ row_address h (s.0 + 0) = sym (add-zero (forward h l a)) ∙ sym x.0 in
      ap (λ y. kind h (y / h.geometry.w)) e ∙ row_is_free h sound.w_positive (s.0 + 0) x.1

  pub outside_stays : (a : ℕ) → in_set h set a ≡ false → forward h l a ≡ a
  outside_stays a e = moved_stays l (places h l) a (λ i. false≢true (sym e ∙ survivor_in_set a i))

  not_true : (b : Bool) → not b ≡ true → b ≡ false
  not_true true e = cc
  not_true false e = refl

  -- a kept object is outside the set, and stays, or a survivor
  pub kept_cases : (o : Object) → Contains (kept h set l) o → ((in_set h set o.at ≡ false) × Contains (objects h) o) ⊎ ((a : ℕ) × Contains l a × (object_at h a ≡ o))
  kept_cases o k =
      elim (Contains-append_cases (filter (λ o. not (in_set h set o.at)) (objects h)) (map (object_at h) l) o k) [
        | inl m ↦ let f = filter_member (λ (o : Object). not (in_set h set o.at)) (objects h) o m in inl (not_true (in_set h set o.at) f.1, f.0)
        | inr m ↦ inr (map_cases (object_at h) l o m)
      ]

  -- a kept object is one of the heap's
  pub kept_object : (o : Object) → Contains (kept h set l) o → Contains (objects h) o
  kept_object o k = elim (kept_cases o k) [
    | inl x ↦ x.1
    | inr x ↦ subst (λ q. Contains (objects h) q) x.2 (reached_object h set sound x.0 ((room.survivors.reached x.0).0 x.1))
  ]

  -- no two kept objects go to one address
  pub forward_one_to_one : (o p : Object) → Contains (kept h set l) o → Contains (kept h set l) p → forward h l o.at ≡ forward h l p.at → o.at ≡ p.at
  forward_one_to_one o p co cp e =
      elim (kept_cases o co) [
        | inl x ↦ elim (kept_cases p cp) [
          | inl y ↦ sym (outside_stays o.at x.0) ∙ e ∙ outside_stays p.at y.0
          | inr y ↦
              let q : y.0 ≡ p.at = ap (λ (z : Object). z.at) y.2 in
              let f : kind h (region_of h o.at) ≡ Free = ap (λ z. kind h (region_of h z)) (sym (outside_stays o.at x.0) ∙ e ∙ ap (forward h l) (sym q)) ∙ survivor_to_free y.0 y.1 in
              absurd (sound.in_used o x.1 f)
        ]
        | inr x ↦
            let qx : x.0 ≡ o.at = ap (λ (z : Object). z.at) x.2 in
            elim (kept_cases p cp) [
              | inl y ↦
                  let f : kind h (region_of h p.at) ≡ Free = ap (λ z. kind h (region_of h z)) (sym (outside_stays p.at y.0) ∙ sym e ∙ ap (forward h l) (sym qx)) ∙ survivor_to_free x.0 x.1 in
                  absurd (sound.in_used p y.1 f)
              | inr y ↦
                  let qy : y.0 ≡ p.at = ap (λ (z : Object). z.at) y.2 in
                  let same : forward h l x.0 + 0 ≡ forward h l y.0 + 0 = ap (λ z. forward h l z + 0) qx ∙ ap (λ z. z + 0) e ∙ ap (λ z. forward h l z + 0) (sym qy) in
                  sym qx ∙ survivors_apart x.0 y.0 0 0 x.1 y.1 (survivor_fits x.0 x.1).0 (survivor_fits y.0 y.1).0 same ∙ qy
            ]
      ]
