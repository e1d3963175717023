-- The objects of a region of to-space after a pause: the survivors placed there, in order.
use Rattle.std.proofs.Common.{◌≡◌, ℕ, zero, suc, ◌+◌, ◌-◌, ◌*◌, ◌/◌, ◌%◌, ◌^◌, ◌<◌, ◌≤◌, ◌⊎◌, inl, inr, Bool, true, false, cond, not, List, [], ◌∷◌, ◌++◌, length, get_or, map, filter, zip}
use Rattle.std.proofs.Common.{fold, max, Contains, refl, sym, ◌∙◌, ap, subst, arith, leb, leb-true, le-leb, eqb, eqb-true, eq-eqb, ne_eqb}
use Rattle.std.proofs.Common.{flat_map}
use Rattle.std.proofs.lemmas.Bool.{cases_lt, false≢true}
use Rattle.std.proofs.Math.Nat.{mul-le-mul_right, div-mul-le_self}
use Rattle.std.proofs.lemmas.List.Elements.{Contains-append_right, Contains-get_or}
use Rattle.g1_after.proofs.Determined.{word_from_copy}
use Rattle.g1_after.proofs.ObjectsMoved.{region_moved}
use Rattle.g1_words.specs.Copy.{renamed_words}
use Rattle.g1_image.specs.Image.{Image}
use Rattle.g1_after.specs.Moved.{IsMoved}
use Rattle.g1_words.proofs.Firsts.{Distinct, Distinct-firsts}
use Rattle.g1_words.proofs.Indices.{Contains-take, is_free_region, not_has}
use Rattle.g1_words.proofs.Members.{Contains-later, Contains-map, filter_member, has_from_contains, map_cases, none_contains}
use Rattle.g1_words.proofs.NextFit.{Fitting, distinct_places, free_distinct, region_below, region_of_row, spot_below, spot_fits}
use Rattle.g1_words.proofs.OneToOne.{all_fit, reached_object}
use Rattle.g1_words.proofs.RowRegions.{offset_of, placed_in, placed_is_laid}
use Rattle.g1_words.proofs.RowTiles.{Chain, chain_from_before, chain_tiles, chain_within, laid_in, next_fit_by_offset}
use Rattle.g1_words.proofs.Shapes.{IsPlain, IsTiled}
use Rattle.g1_words.proofs.Sound.{IsSound}
use Rattle.g1_words.specs.Geometry.{Geometry}
use Rattle.g1_words.specs.Heap.{Heap, kind, object_at, objects, objects_by, objects_in, region, region_with, tiles, top, word}
use Rattle.g1_words.specs.Layout.{end_in, forward, free_regions, kept, laid, laid_end, moved_to, need, next_fit, row_address, sizes_of, to_space, HasRoom}
use Rattle.g1_words.specs.Lists.{has}
use Rattle.g1_words.specs.Moves.{moved_object, placed_there}
use Rattle.g1_words.specs.Survivors.{in_set, children, seeds}
use Rattle.g1_words.specs.declared.object.Object.{Object}
use Rattle.g1_words.specs.declared.region.Kind.TheVariants.{Free, Ordinary}
use Rattle.g1_words.specs.declared.region.Region.{Region}

-- ---- chains

pub chain_fold : (o : ℕ) (xs : List (ℕ × ℕ)) (end : ℕ) → Chain o xs end → fold (λ m x. max m x) o (map (λ x. x.0 + x.1) xs) ≡ end
chain_fold o [] end c = c
chain_fold o (x ∷ xs) end c =
    let m : max o (x.0 + x.1) ≡ o + x.1 = omega (arith, c.0) in
    ap (λ y. fold (λ m x. max m x) y (map (λ x. x.0 + x.1) xs)) m ∙ chain_fold (o + x.1) xs end c.1

pub chain_count : (o : ℕ) (xs : List (ℕ × ℕ)) (end : ℕ) → Chain o xs end → ((x : ℕ × ℕ) → Contains xs x → 0 < x.1) → o + length xs ≤ end
chain_count o [] end c f = omega arith
chain_count o (x ∷ xs) end c f = let a = f x (zero, omega arith, refl) in let b = chain_count (o + x.1) xs end c.1 (λ y k. f y (suc k.0, omega (arith, k.1), k.2)) in omega arith

pub chain_top : (w o : ℕ) (xs : List (ℕ × ℕ)) (end : ℕ) → o ≤ w → Chain o xs end → ((x : ℕ × ℕ) → Contains xs x → x.0 + x.1 ≤ w) → end ≤ w
chain_top w o [] end le c f = omega arith
chain_top w o (x ∷ xs) end le c f = let a = f x (zero, omega arith, refl) in let e = c.0 in chain_top w (o + x.1) xs end (omega arith) c.1 (λ y k. f y (suc k.0, omega (arith, k.1), k.2))

module _ (w : ℕ) (pos : 0 < w) where
  -- the objects that the whole row lays into a region are a chain from its start
  pub row_chain : (t : ℕ) (ss : List ℕ) → (end : ℕ) × Chain 0 (laid_in w t 0 0 ss) end
  row_chain zero ss = chain_within w pos 0 0 ss
  row_chain (suc t) ss = chain_from_before w pos (suc t) 0 0 ss (omega arith)

-- ---- survivors and their places, side by side

-- each of these goes to its place in the row, and stands there in j
abbrev pub Paired : Heap → Heap → (ℕ → ℕ) → List ℕ → List ℕ → Type 0
Paired h j f [] [] = Unit {0}
Paired h j f [] (p ∷ ps) = ⊥
Paired h j f (a ∷ as') [] = ⊥
Paired h j f (a ∷ as') (p ∷ ps) = (f a ≡ row_address h p) × (p / h.geometry.w < length (free_regions h)) × (object_at j (f a) ≡ moved_object f (object_at h a)) × Paired h j f as' ps

module _ (h j : Heap) (pos : 0 < h.geometry.w) (f : ℕ → ℕ) where
  pub paired : (l : List ℕ) (from : ℕ) → Distinct l → ((a : ℕ) → Contains l a → f a ≡ moved_to l (map (row_address h) (laid h.geometry.w from (sizes_of h l))) a)
      → ((a : ℕ) → Contains l a → object_at j (f a) ≡ moved_object f (object_at h a))
      → ((x : ℕ × ℕ) → Contains (zip (laid h.geometry.w from (sizes_of h l)) (sizes_of h l)) x → x.0 / h.geometry.w < length (free_regions h))
      → Paired h j f l (laid h.geometry.w from (sizes_of h l))
  paired [] from d e o b = tt
  paired (a ∷ l) from d e o b =
      let s : ℕ = (object_at h a).size in
      let p : ℕ = next_fit h.geometry.w from s in
      let q : eqb a a ≡ true = eq-eqb a a refl in
      let ps : List ℕ = map (row_address h) (laid h.geometry.w (p + s) (sizes_of h l)) in (
        e a (zero, omega arith, refl) ∙ (λ t. cond (q t) (row_address h p) (moved_to l ps a)),
        b (p, s) (zero, omega arith, refl),
        o a (zero, omega arith, refl),
        paired l (p + s) d.1
            (λ c k. let n : eqb a c ≡ false = ne_eqb a c (λ g. d.0 (subst (λ x. Contains l x) (sym g) k)) in e c (Contains-later a l c k) ∙ (λ t. cond (n t) (row_address h p) (moved_to l ps c)))
            (λ c k. o c (suc k.0, omega (arith, k.1), k.2)) (λ x k. b x (suc k.0, omega (arith, k.1), k.2)),
      )

  module _ (t : ℕ) (here : t < length (free_regions h)) where
    abbrev pub region_at : ℕ
    region_at = get_or (free_regions h) t 0

    pub same_region : (p : ℕ) → p / h.geometry.w < length (free_regions h) → eqb (row_address h p / h.geometry.w) region_at ≡ eqb (p / h.geometry.w) t
    same_region p lt = go (eqb (p / h.geometry.w) t) (eqb (row_address h p / h.geometry.w) region_at) refl refl
      where
        go : (b c : Bool) → eqb (p / h.geometry.w) t ≡ b → eqb (row_address h p / h.geometry.w) (get_or (free_regions h) t 0) ≡ c →
            eqb (row_address h p / h.geometry.w) (get_or (free_regions h) t 0) ≡ eqb (p / h.geometry.w) t
        go true true e g = g ∙ sym e
        go false false e g = g ∙ sym e
        go true false e g =
            let k : row_address h p / h.geometry.w ≡ get_or (free_regions h) t 0 = region_of_row h pos p ∙ ap (λ x. get_or (free_regions h) x 0) (eqb-true (p / h.geometry.w) t e) in
            eq-eqb (row_address h p / h.geometry.w) (get_or (free_regions h) t 0) k ∙ sym e
        go false true e g =
            let k : get_or (free_regions h) (p / h.geometry.w) 0 ≡ get_or (free_regions h) t 0 =
            sym (region_of_row h pos p) ∙ eqb-true (row_address h p / h.geometry.w) (get_or (free_regions h) t 0) g in
            let m : p / h.geometry.w ≡ t = distinct_places (free_regions h) (p / h.geometry.w) t 0 (free_distinct h pos) lt here k in
            g ∙ sym (eq-eqb (p / h.geometry.w) t m)

    placed_at : (a p s : ℕ) (F : List (ℕ × ℕ)) (G : List ℕ) (b : Bool) → eqb (p / h.geometry.w) t ≡ b → f a ≡ row_address h p → object_at j (f a) ≡ moved_object f (object_at h a)
        → map (λ x. object_at j (region_at * h.geometry.w + x.0)) (map (offset_of h.geometry.w) F) ≡ map (λ a. moved_object f (object_at h a)) G
        → map (λ x. object_at j (region_at * h.geometry.w + x.0)) (map (offset_of h.geometry.w) (cond b ((p, s) ∷ F) F)) ≡ map (λ a. moved_object f (object_at h a)) (cond b (a ∷ G) G)
    placed_at a p s F G false e g o rest = rest
    placed_at a p s F G true e g o rest =
        let q : p / h.geometry.w ≡ t = eqb-true (p / h.geometry.w) t e in
        let head : object_at j (region_at * h.geometry.w + p % h.geometry.w) ≡ moved_object f (object_at h a) =
        (λ i. object_at j (get_or (free_regions h) (sym q i) 0 * h.geometry.w + p % h.geometry.w)) ∙ (λ i. object_at j (sym g i)) ∙ o in
        λ i. head i ∷ rest i

    -- the list of what is laid into the region is the list of the survivors that go there
    pub placed : (l ps : List ℕ) → Paired h j f l ps
        → map (λ x. object_at j (region_at * h.geometry.w + x.0)) (placed_in h.geometry.w t (zip ps (sizes_of h l)))
        ≡ map (λ a. moved_object f (object_at h a)) (filter (λ a. eqb (f a / h.geometry.w) region_at) l)
    placed [] [] k = refl
    placed [] (p ∷ ps) k = absurd k
    placed (a ∷ l) [] k = absurd k
    placed (a ∷ l) (p ∷ ps) k =
        let same : eqb (p / h.geometry.w) t ≡ eqb (f a / h.geometry.w) region_at = sym (same_region p k.1) ∙ ap (λ x. eqb (x / h.geometry.w) region_at) (sym k.0) in
        let G : List ℕ = filter (λ a. eqb (f a / h.geometry.w) region_at) l in
        placed_at a p (object_at h a).size (filter (λ x. eqb (x.0 / h.geometry.w) t) (zip ps (sizes_of h l))) G (eqb (p / h.geometry.w) t) refl k.0 k.2 (placed l ps k.3)
        ∙ (λ i. map (λ a. moved_object f (object_at h a)) (cond (same i) (a ∷ G) G))

    ends_at : (p s : ℕ) (F G : List (ℕ × ℕ)) (b : Bool) → eqb (p / h.geometry.w) t ≡ b
        → map (λ x. x.0 + x.1 - region_at * h.geometry.w) G ≡ map (λ x. x.0 + x.1) (map (offset_of h.geometry.w) F)
        → map (λ x. x.0 + x.1 - region_at * h.geometry.w) (cond b ((row_address h p, s) ∷ G) G) ≡ map (λ x. x.0 + x.1) (map (offset_of h.geometry.w) (cond b ((p, s) ∷ F) F))
    ends_at p s F G false e rest = rest
    ends_at p s F G true e rest =
        let q : p / h.geometry.w ≡ t = eqb-true (p / h.geometry.w) t e in
        let at : row_address h p ≡ region_at * h.geometry.w + p % h.geometry.w = λ i. get_or (free_regions h) (q i) 0 * h.geometry.w + p % h.geometry.w in
        let head : row_address h p + s - region_at * h.geometry.w ≡ p % h.geometry.w + s = omega (arith, at) in
        λ i. head i ∷ rest i

    pub ends : (l ps : List ℕ) → Paired h j f l ps
        → map (λ x. x.0 + x.1 - region_at * h.geometry.w) (filter (λ x. eqb (x.0 / h.geometry.w) region_at)
        (zip (map (row_address h) ps) (sizes_of h l))) ≡ map (λ x. x.0 + x.1) (placed_in h.geometry.w t (zip ps (sizes_of h l)))
    ends [] [] k = refl
    ends [] (p ∷ ps) k = absurd k
    ends (a ∷ l) [] k = absurd k
    ends (a ∷ l) (p ∷ ps) k =
        let G : List (ℕ × ℕ) = filter (λ x. eqb (x.0 / h.geometry.w) region_at) (zip (map (row_address h) ps) (sizes_of h l)) in
        (λ i. map (λ x. x.0 + x.1 - region_at * h.geometry.w) (cond (same_region p k.1 i) ((row_address h p, (object_at h a).size) ∷ G) G))
        ∙ ends_at p (object_at h a).size (filter (λ x. eqb (x.0 / h.geometry.w) t) (zip ps (sizes_of h l))) G (eqb (p / h.geometry.w) t) refl (ends l ps k.3)

    headers_at : (a p : ℕ) (F : List (ℕ × ℕ)) (b : Bool) → eqb (p / h.geometry.w) t ≡ b → f a ≡ row_address h p → object_at j (f a) ≡ moved_object f (object_at h a)
        → ((x : ℕ × ℕ) → Contains (map (offset_of h.geometry.w) F) x → (object_at j (region_at * h.geometry.w + x.0)).size ≡ x.1)
        → (x : ℕ × ℕ) → Contains (map (offset_of h.geometry.w) (cond b ((p, (object_at h a).size) ∷ F) F)) x → (object_at j (region_at * h.geometry.w + x.0)).size ≡ x.1
    headers_at a p F false e g o rest x k = rest x k
    headers_at a p F true e g o rest x (suc n, b, eq) = rest x (n, omega (arith, b), eq)
    headers_at a p F true e g o rest x (zero, b, k) =
        let q : p / h.geometry.w ≡ t = eqb-true (p / h.geometry.w) t e in
        let head : (object_at j (region_at * h.geometry.w + p % h.geometry.w)).size ≡ (object_at h a).size =
        (λ i. (object_at j (get_or (free_regions h) (sym q i) 0 * h.geometry.w + p % h.geometry.w)).size) ∙ (λ i. (object_at j (sym g i)).size) ∙ ap (λ (x : Object). x.size) o in
        subst (λ (y : ℕ × ℕ). (object_at j (region_at * h.geometry.w + y.0)).size ≡ y.1) k head

    pub headers : (l ps : List ℕ) → Paired h j f l ps → (x : ℕ × ℕ) → Contains (placed_in h.geometry.w t (zip ps (sizes_of h l))) x → (object_at j (region_at * h.geometry.w + x.0)).size ≡ x.1
    headers [] [] k x m = absurd (none_contains x m)
    headers [] (p ∷ ps) k x m = absurd k
    headers (a ∷ l) [] k x m = absurd k
    headers (a ∷ l) (p ∷ ps) k x m =
        headers_at a p (filter (λ x. eqb (x.0 / h.geometry.w) t) (zip ps (sizes_of h l))) (eqb (p / h.geometry.w) t) refl k.0 k.2 (headers l ps k.3) x m

-- ---- every region that is needed has an object laid into it

module _ (w : ℕ) (pos : 0 < w) where
  used_at : (t u o s : ℕ) (ss : List ℕ) → o ≤ w → 0 < s → s ≤ w → (u < t) ⊎ ((u ≡ t) × (o ≡ 0)) → (b : Bool) → leb (o + s) w ≡ b
      → t * w < laid_end w (cond b (u * w + o) (suc u * w) + s) ss
      → (u < t → o + s ≤ w → t * w < laid_end w (u * w + (o + s)) ss → 0 < length (laid_in w t u (o + s) ss))
      → (suc u < t → t * w < laid_end w (suc u * w + s) ss → 0 < length (laid_in w t (suc u) s ss))
      → 0 < length (elim b as (λ _. List (ℕ × ℕ)) [
        | true ↦ cond (eqb u t) ((o, s) ∷ laid_in w t u (o + s) ss) (laid_in w t u (o + s) ss)
        | false ↦ cond (eqb (suc u) t) ((0, s) ∷ laid_in w t (suc u) s ss) (laid_in w t (suc u) s ss)
      ])
  used_at t u o s ss le p q (inl lt) true e m here next =
      let n : eqb u t ≡ false = ne_eqb u t (omega arith) in
      let sum : u * w + o + s ≡ u * w + (o + s) = omega arith in
      rw n (here lt (leb-true (o + s) w e) (subst (λ x. t * w < laid_end w x ss) sum m))
  used_at t u o s ss le p q (inr z) true e m here next =
      let n : eqb u t ≡ true = eq-eqb u t z.0 in rw n (omega arith)
  used_at t u o s ss le p q (inr z) false e m here next =
      let k : leb (o + s) w ≡ true = le-leb (o + s) w (omega (arith, z.1)) in absurd (false≢true (sym e ∙ k))
  used_at t u o s ss le p q (inl lt) false e m here next =
      elim (cases_lt (suc u) t) [
        | inl lt' ↦ let n : eqb (suc u) t ≡ false = ne_eqb (suc u) t (omega arith) in rw n (next lt' m)
        | inr ge ↦ let n : eqb (suc u) t ≡ true = eq-eqb (suc u) t (omega arith) in rw n (omega arith)
      ]

  pub region_used : (t u o : ℕ) (ss : List ℕ) → o ≤ w → Fitting w ss → (u < t) ⊎ ((u ≡ t) × (o ≡ 0)) → t * w < laid_end w (u * w + o) ss → 0 < length (laid_in w t u o ss)
  region_used t u o [] le f (inl lt) m = let k : suc u * w ≤ t * w = mul-le-mul_right w (omega arith) in absurd (omega arith)
  region_used t u o [] le f (inr z) m = let e : u * w ≡ t * w = ap (λ x. x * w) z.0 in absurd (omega (arith, z.1))
  region_used t u o (s ∷ ss) le f d m =
      let spot : next_fit w (u * w + o) s ≡ cond (leb (o + s) w) (u * w + o) (suc u * w) = next_fit_by_offset w pos u o s le f.0 f.1 in
      used_at t u o s ss le f.0 f.1 d (leb (o + s) w) refl (subst (λ x. t * w < laid_end w (x + s) ss) spot m)
      (λ lt fits k. region_used t u (o + s) ss fits f.2 (inl lt) k)
      (λ lt k. region_used t (suc u) s ss f.1 f.2 (inl lt) k)

-- ---- the law

pub chain_tiled : (j : Heap) (base o : ℕ) (xs : List (ℕ × ℕ)) (end : ℕ) → Chain o xs end
    → ((x : ℕ × ℕ) → Contains xs x → (object_at j (base + x.0)).size ≡ x.1) → ((x : ℕ × ℕ) → Contains xs x → IsPlain j (object_at j (base + x.0)))
    → IsTiled j (base + o) (map (λ x. object_at j (base + x.0)) xs) (base + end)
chain_tiled j base o [] end c f g = ap (λ e. base + e) c
chain_tiled j base o (x ∷ xs) end c f g =
    let size : (object_at j (base + x.0)).size ≡ x.1 = f x (zero, omega arith, refl) in
    let at : base + x.0 ≡ base + o = ap (λ y. base + y) c.0 in
    let next : base + (o + x.1) ≡ base + o + (object_at j (base + x.0)).size = omega (arith, size) in (
      ap (object_at j) at,
      g x (zero, omega arith, refl),
      subst (λ y. IsTiled j y (map (λ x. object_at j (base + x.0)) xs) (base + end)) next (chain_tiled j base (o + x.1) xs end c.1 (λ y k. f y (suc k.0, omega (arith, k.1), k.2)) (λ y k. g y (suc k.0, omega (arith, k.1), k.2))),
    )

module _ (i : Image) (set l : List ℕ) (j : Image) (sound : IsSound i.heap) (room : HasRoom i.heap set l) (moved : IsMoved i set l j) where
  pub survivors_distinct : Distinct l
  survivors_distinct = subst Distinct (sym room.survivors.in_order) (Distinct-firsts (seeds i.heap set ++ flat_map (children i.heap set) l))

  pub survivor_object : (a : ℕ) → Contains l a → Contains (objects i.heap) (object_at i.heap a)
  survivor_object a k = reached_object i.heap set sound a ((room.survivors.reached a).0 k)

  -- the header of a kept object is copied
  pub object_copied : (o : Object) → Contains (kept i.heap set l) o → Contains (objects i.heap) o → o ≡ object_at i.heap o.at → object_at j.heap (forward i.heap l o.at) ≡ moved_object (forward i.heap l) o
  object_copied o k c e =
      let f : ℕ → ℕ = forward i.heap l in
      let pos : o.refs < o.size = sound.slots_fit o c in
      let w : word j.heap (f o.at) ≡ get_or (renamed_words f i.heap o) (f o.at - f o.at) 0 =
      word_from_copy f i.heap j.heap o (f o.at) (moved.copies o k) (omega arith) (omega arith) in
      let z : f o.at - f o.at ≡ 0 = omega arith in
      let same : word j.heap (f o.at) ≡ word i.heap o.at = w ∙ ap (λ m. get_or (renamed_words f i.heap o) m 0) z in
      (λ t. record { at = f o.at; size = same t / 2 ^ 32; refs = same t % 2 ^ 32 }) ∙ ap (λ (x : Object). moved_object f x) (sym e)

  pub survivor_kept : (a : ℕ) → Contains l a → Contains (kept i.heap set l) (object_at i.heap a)
  survivor_kept a k = Contains-append_right (filter (λ o. not (in_set i.heap set o.at)) (objects i.heap)) (map (object_at i.heap) l) (object_at i.heap a) (Contains-map (object_at i.heap) l a k)

  abbrev sizes : List ℕ
  sizes = sizes_of i.heap l

  row_fits : Fitting i.heap.geometry.w (sizes_of i.heap l)
  row_fits = all_fit i.heap set l sound room

  row_below : (x : ℕ × ℕ) → Contains (zip (laid i.heap.geometry.w 0 (sizes_of i.heap l)) (sizes_of i.heap l)) x → x.0 / i.heap.geometry.w < length (free_regions i.heap)
  row_below x k =
      let a = spot_fits i.heap.geometry.w sound.w_positive 0 (sizes_of i.heap l) row_fits x k in
      let b = spot_below i.heap.geometry.w sound.w_positive 0 (sizes_of i.heap l) row_fits x k in
      let c : x.0 / i.heap.geometry.w < need i.heap l = region_below i.heap.geometry.w sound.w_positive x.0 (laid_end i.heap.geometry.w 0 (sizes_of i.heap l)) (omega arith) in
      omega arith

  all_paired : Paired i.heap j.heap (forward i.heap l) l (laid i.heap.geometry.w 0 (sizes_of i.heap l))
  all_paired = paired i.heap j.heap sound.w_positive (forward i.heap l) l 0 survivors_distinct (λ a k. refl)
      (λ a k. object_copied (object_at i.heap a) (survivor_kept a k) (survivor_object a k) refl) row_below

  module _ (t : ℕ) (here : t < need i.heap l) where
    abbrev pub goal_region : ℕ
    goal_region = get_or (free_regions i.heap) t 0

    there : t < length (free_regions i.heap)
    there = omega arith

    pub goal_in_to_space : has (to_space i.heap l) goal_region ≡ true
    goal_in_to_space = has_from_contains (to_space i.heap l) goal_region (Contains-take (need i.heap l) (free_regions i.heap) t 0 here there)

    pub goal_is_free : (kind i.heap goal_region ≡ Free) × (goal_region < i.heap.geometry.n)
    goal_is_free = is_free_region i.heap goal_region (Contains-get_or (free_regions i.heap) t 0 there)

    pub goal_not_in_set : has set goal_region ≡ false
    goal_not_in_set = not_has set goal_region (λ k. let clash : Free ≡ Ordinary = sym goal_is_free.0 ∙ room.ordinary goal_region k in cc)

    goal_is : region j.heap goal_region ≡ region_with Ordinary (end_in i.heap l goal_region)
    goal_is = region_moved i set l j sound room moved goal_region goal_is_free.1 ∙ rw (goal_not_in_set, goal_in_to_space) refl

    pub goal_kind : kind j.heap goal_region ≡ Ordinary
    goal_kind = ap (λ (q : Region). q.kind) goal_is

    placed_same : placed_in i.heap.geometry.w t (zip (laid i.heap.geometry.w 0 (sizes_of i.heap l)) (sizes_of i.heap l)) ≡ laid_in i.heap.geometry.w t 0 0 (sizes_of i.heap l)
    placed_same =
        let z : 0 ≡ 0 * i.heap.geometry.w + 0 = omega arith in
        ap (λ x. placed_in i.heap.geometry.w t (zip (laid i.heap.geometry.w x (sizes_of i.heap l)) (sizes_of i.heap l))) z
        ∙ placed_is_laid i.heap.geometry.w sound.w_positive t 0 0 (sizes_of i.heap l) (omega arith) row_fits

    abbrev row : List (ℕ × ℕ)
    row = laid_in i.heap.geometry.w t 0 0 (sizes_of i.heap l)

    abbrev end : ℕ
    end = (row_chain i.heap.geometry.w sound.w_positive t (sizes_of i.heap l)).0

    chain : Chain 0 row end
    chain = (row_chain i.heap.geometry.w sound.w_positive t (sizes_of i.heap l)).1

    row_of_spots : (x : ℕ × ℕ) → Contains row x → (0 < x.1) × (x.0 + x.1 ≤ i.heap.geometry.w)
    row_of_spots x k =
        let m = map_cases (offset_of i.heap.geometry.w) (filter (λ x. eqb (x.0 / i.heap.geometry.w) t)
        (zip (laid i.heap.geometry.w 0 (sizes_of i.heap l)) (sizes_of i.heap l))) x (subst (λ xs. Contains xs x) (sym placed_same) k) in
        let y = (filter_member (λ (x : ℕ × ℕ). eqb (x.0 / i.heap.geometry.w) t) (zip (laid i.heap.geometry.w 0 (sizes_of i.heap l)) (sizes_of i.heap l)) m.0 m.1).0 in
        subst (λ (x : ℕ × ℕ). (0 < x.1) × (x.0 + x.1 ≤ i.heap.geometry.w)) m.2 (spot_fits i.heap.geometry.w sound.w_positive 0 (sizes_of i.heap l) row_fits m.0 y)

    row_headers : (x : ℕ × ℕ) → Contains row x → (object_at j.heap (goal_region * i.heap.geometry.w + x.0)).size ≡ x.1
    row_headers x k = headers i.heap j.heap sound.w_positive (forward i.heap l) t there l (laid i.heap.geometry.w 0 (sizes_of i.heap l)) all_paired x (subst (λ xs. Contains xs x) (sym placed_same) k)

    end_is : end_in i.heap l goal_region ≡ end
    end_is =
        ap (fold (λ m x. max m x) 0) (ends i.heap j.heap sound.w_positive (forward i.heap l) t there l (laid i.heap.geometry.w 0 (sizes_of i.heap l)) all_paired)
        ∙ ap (λ xs. fold (λ m x. max m x) 0 (map (λ x. x.0 + x.1) xs)) placed_same
        ∙ chain_fold 0 row end chain

    goal_end : top j.heap goal_region ≡ end
    goal_end = ap (λ (q : Region). q.top) goal_is ∙ end_is

    -- a to-space region isn't empty, and its last object ends within it
    pub goal_top : (0 < top j.heap goal_region) × (top j.heap goal_region ≤ i.heap.geometry.w)
    goal_top =
        let e = goal_end in
        let c = chain_count 0 row end chain (λ x k. (row_of_spots x k).0) in
        let m = chain_top i.heap.geometry.w 0 row end (omega arith) chain (λ x k. (row_of_spots x k).1) in
        let u : 0 < length row = region_used i.heap.geometry.w sound.w_positive t 0 0 (sizes_of i.heap l) (omega arith) row_fits
        (elim (cases_lt 0 t) [ inl lt ↦ inl lt | inr ge ↦ inr (omega arith, refl) ])
        (let z : 0 * i.heap.geometry.w + 0 ≡ 0 = omega arith in subst (λ x. t * i.heap.geometry.w < laid_end i.heap.geometry.w x (sizes_of i.heap l)) (sym z) reached) in
        (omega arith, omega arith)
      where
        reached : t * i.heap.geometry.w < laid_end i.heap.geometry.w 0 (sizes_of i.heap l)
        reached =
            let d : need i.heap l * i.heap.geometry.w ≤ laid_end i.heap.geometry.w 0 (sizes_of i.heap l) + (i.heap.geometry.w - 1) =
            div-mul-le_self (laid_end i.heap.geometry.w 0 (sizes_of i.heap l) + (i.heap.geometry.w - 1)) i.heap.geometry.w in
            let k : suc t * i.heap.geometry.w ≤ need i.heap l * i.heap.geometry.w = mul-le-mul_right i.heap.geometry.w (omega arith) in
            let p = sound.w_positive in
            omega arith

    row_objects : map (λ x. object_at j.heap (goal_region * i.heap.geometry.w + x.0)) row ≡ placed_there i.heap l goal_region
    row_objects = ap (map (λ x. object_at j.heap (goal_region * i.heap.geometry.w + x.0))) (sym placed_same)
        ∙ placed i.heap j.heap sound.w_positive (forward i.heap l) t there l (laid i.heap.geometry.w 0 (sizes_of i.heap l)) all_paired

    -- the objects of a to-space region are the survivors placed there, in order, at their places
    pub to_space_objects : objects_in j.heap goal_region ≡ placed_there i.heap l goal_region
    to_space_objects =
        let r : ℕ = goal_region in
        let base : ℕ = r * i.heap.geometry.w in
        let z : base ≡ base + 0 = omega arith in
        let least : 0 + length row ≤ end = chain_count 0 row end chain (λ x k. (row_of_spots x k).0) in
        let count : length row ≤ end = omega arith in
        ap (λ k. objects_by k j.heap r) goal_kind
        ∙ (λ q. tiles j.heap (goal_end q) (r * (moved.geometry q).w) (r * (moved.geometry q).w + goal_end q))
        ∙ ap (λ x. tiles j.heap end x (base + end)) z
        ∙ chain_tiles j.heap base end 0 row end count chain (λ x k. ((row_of_spots x k).0, row_headers x k))
        ∙ row_objects

    -- and they fill it up to its top
    pub to_space_tiled : ((o : Object) → Contains (objects_in j.heap goal_region) o → IsPlain j.heap o) →
        IsTiled j.heap (goal_region * j.heap.geometry.w) (objects_in j.heap goal_region) (goal_region * j.heap.geometry.w + top j.heap goal_region)
    to_space_tiled f =
        let base : ℕ = goal_region * i.heap.geometry.w in
        let z : base + 0 ≡ base = omega arith in
        let os : map (λ x. object_at j.heap (base + x.0)) row ≡ objects_in j.heap goal_region = row_objects ∙ sym to_space_objects in
        let t : IsTiled j.heap (base + 0) (map (λ x. object_at j.heap (base + x.0)) row) (base + end) =
        chain_tiled j.heap base 0 row end chain row_headers (λ x k. f (object_at j.heap (base + x.0))
        (subst (λ xs. Contains xs (object_at j.heap (base + x.0))) os (Contains-map (λ (x : ℕ × ℕ). object_at j.heap (base + x.0)) row x k))) in
        subst (λ y. IsTiled j.heap (goal_region * y) (objects_in j.heap goal_region) (goal_region * y + top j.heap goal_region)) (sym (ap (λ (g : Geometry). g.w) moved.geometry))
        (subst (λ y. IsTiled j.heap base (objects_in j.heap goal_region) (base + y)) (sym goal_end)
        (subst (λ xs. IsTiled j.heap base xs (base + end)) os (subst (λ y. IsTiled j.heap y (map (λ x. object_at j.heap (base + x.0)) row) (base + end)) z t)))
