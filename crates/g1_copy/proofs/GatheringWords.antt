-- The words of to-space: those of the survivor that takes them, and 0 where none does.
use Rattle.std.proofs.Common.{◌≡◌, ℕ, zero, suc, ◌+◌, ◌-◌, ◌*◌, ◌<◌, ◌≤◌, ◌⊎◌, inl, inr, Bool, true, false, cond, ◌&&◌, List, [], ◌∷◌, length, get_or, map, flat_map, take, zip, Contains}
use Rattle.std.proofs.Common.{refl, sym, ◌∙◌, ap, subst, arith, leb, ltb, leb-true, ltb-true, le-leb, lt-ltb, length-append}
use Rattle.std.proofs.lemmas.Bool.{cases_lt}
use Rattle.std.proofs.Math.Nat.{suc-mul, zero-mul}
use Rattle.std.proofs.lemmas.List.{get_or_default, get_or-take, length-take-le}
use Rattle.std.proofs.lemmas.List.Concat.{get_or-flat_map}
use Rattle.std.proofs.lemmas.List.FromFn.{get_or-map-range_with_len, length-map-range_with_len}
use Rattle.std.proofs.lemmas.Slice.Zip.{get_or-zip, length-zip}
use Rattle.std.proofs.lemmas.List.Elements.{Contains-get_or}
use Rattle.g1_words.proofs.Members.{Contains-first, Contains-later, Contains-map, and_true, map_cases, none_contains}
use Rattle.g1_words.proofs.Sound.{w_positive}
use Rattle.g1_words.specs.Heap.{Heap, object_at, start}
use Rattle.g1_words.specs.Layout.{forward, free_regions, need, places, sizes_of, to_space}
use Rattle.g1_words.specs.Valid.{IsValid}
use Rattle.g1_words.specs.declared.object.Object.{Object}
use Rattle.g1_words.specs.Copy.{renamed_words}
use Rattle.g1_after.specs.Made.{moved_word}
use Rattle.g1_layout.proofs.Conditions.{can_lay}
use Rattle.g1_layout.proofs.Running.{count_places, count_sizes, size_is}
use Rattle.g1_layout.proofs.Stretches.{forward_at, places_rise}
use Rattle.g1_layout.specs.Placed.{CanPlace}
use Rattle.g1_copy.specs.Gathered.{placed_words, to_space_words}

-- ---- the word at an address, by what takes it

-- the object takes the word where f moved it
abbrev pub Takes : (ℕ → ℕ) → Object → ℕ → Type 0
Takes f o q = (f o.at ≤ q) × (q < f o.at + o.size)

module _ (f : ℕ → ℕ) (h : Heap) (q : ℕ) where
  hit_at : (p o : Object) (os : List Object) (b : Bool) → (leb (f p.at) q && ltb q (f p.at + p.size)) ≡ b → Contains (p ∷ os) o → Takes f o q → (Takes f p q → p ≡ o)
      → (Contains os o → moved_word f h os q ≡ get_or (renamed_words f h o) (q - f o.at) 0)
      → cond b (get_or (renamed_words f h p) (q - f p.at) 0) (moved_word f h os q) ≡ get_or (renamed_words f h o) (q - f o.at) 0
  hit_at p o os true e i t one rest =
      let both = and_true (leb (f p.at) q) (ltb q (f p.at + p.size)) e in
      let same : p ≡ o = one (leb-true (f p.at) q both.0, ltb-true q (f p.at + p.size) both.1) in
      λ k. get_or (renamed_words f h (same k)) (q - f (same k).at) 0
  hit_at p o os false e (suc k, b, eq) t one rest = rest (k, omega (arith, b), eq)
  hit_at p o os false e (zero, lt, same) t one rest =
      let low : f p.at ≤ q = subst (λ (x : Object). f x.at ≤ q) (sym same) t.0 in
      let high : q < f p.at + p.size = subst (λ (x : Object). q < f x.at + x.size) (sym same) t.1 in
      let a : leb (f p.at) q ≡ true = le-leb (f p.at) q low in
      let b : ltb q (f p.at + p.size) ≡ true = lt-ltb q (f p.at + p.size) high in
      let clash : false ≡ true = sym e ∙ (λ k. a k && b k) in
      cc

  -- a word that one object takes, and no other
  pub moved_word_hit : (os : List Object) (o : Object) → Contains os o → Takes f o q → ((p : Object) → Contains os p → Takes f p q → p ≡ o)
      → moved_word f h os q ≡ get_or (renamed_words f h o) (q - f o.at) 0
  moved_word_hit [] o i t one = absurd (none_contains o i)
  moved_word_hit (p ∷ os) o i t one =
      hit_at p o os (leb (f p.at) q && ltb q (f p.at + p.size)) refl i t (one p (Contains-first p os)) (λ j. moved_word_hit os o j t (λ x k. one x (Contains-later p os x k)))

  miss_at : (p : Object) (os : List Object) (b : Bool) → (leb (f p.at) q && ltb q (f p.at + p.size)) ≡ b → (Takes f p q → ⊥) → moved_word f h os q ≡ 0
      → cond b (get_or (renamed_words f h p) (q - f p.at) 0) (moved_word f h os q) ≡ 0
  miss_at p os true e off rest =
      let both = and_true (leb (f p.at) q) (ltb q (f p.at + p.size)) e in
      absurd (off (leb-true (f p.at) q both.0, ltb-true q (f p.at + p.size) both.1))
  miss_at p os false e off rest = rest

  -- a word that no object takes
  pub moved_word_miss : (os : List Object) → ((p : Object) → Contains os p → Takes f p q → ⊥) → moved_word f h os q ≡ 0
  moved_word_miss [] off = refl
  moved_word_miss (p ∷ os) off =
      miss_at p os (leb (f p.at) q && ltb q (f p.at + p.size)) refl (off p (Contains-first p os)) (moved_word_miss os (λ x k. off x (Contains-later p os x k)))

-- ---- the survivors by their index

module _ (h : Heap) (set l : List ℕ) (valid : IsValid h) (can : CanPlace h set l) (room : need h l ≤ length (free_regions h)) where
  abbrev pub survivor : ℕ → ℕ
  survivor i = get_or l i 0

  abbrev pub place : ℕ → ℕ
  place i = get_or (places h l) i 0

  abbrev pub width : ℕ → ℕ
  width i = (object_at h (get_or l i 0)).size

  -- each survivor ends before the next one's place
  pub places_apart : (i j : ℕ) → i < j → j < length l → place i + width i ≤ place j
  places_apart i j less lt =
      let lay = can_lay h set l valid can in
      let a = count_places h l (w_positive h valid) lay room in
      let b = count_sizes h l (w_positive h valid) lay room in
      let n = length-zip (places h l) (sizes_of h l) in
      let p = places_rise h set l valid can room i j (0, 0) less (omega arith) in
      let x = get_or-zip (places h l) (sizes_of h l) i (0, 0) (omega arith) (omega arith) in
      let y = get_or-zip (places h l) (sizes_of h l) j (0, 0) (omega arith) (omega arith) in
      let s : get_or (sizes_of h l) i 0 ≡ width i = size_is h l (w_positive h valid) lay room i (omega arith) in
      let first : (get_or (zip (places h l) (sizes_of h l)) i (0, 0)).0 + (get_or (zip (places h l) (sizes_of h l)) i (0, 0)).1 ≡ place i + width i =
      (λ t. (x t).0 + (x t).1) ∙ ap (λ z. place i + z) s in
      let second : (get_or (zip (places h l) (sizes_of h l)) j (0, 0)).0 ≡ place j = λ t. (y t).0 in
      omega (arith, p, first, second)

  -- two survivors that take one word are the same
  pub same_taker : (i j q : ℕ) → i < length l → j < length l → place i ≤ q → q < place i + width i → place j ≤ q → q < place j + width j → i ≡ j
  same_taker i j q li lj a b c d = elim (cases_lt i j) [
    | inl lt ↦ let k = places_apart i j lt lj in absurd (omega arith)
    | inr ge ↦ elim (cases_lt j i) [
      | inl lt ↦ let k = places_apart j i lt li in absurd (omega arith)
      | inr le ↦ omega arith
    ]
  ]

  -- a survivor by its index
  by_index : (p : Object) → Contains (map (object_at h) l) p → (i : ℕ) × (i < length l) × (object_at h (survivor i) ≡ p)
  by_index p k =
      let m = map_cases (object_at h) l p k in
      let c = m.1 in
      (c.0, c.1, ap (object_at h) (sym (get_or_default l c.0 m.0 0 c.1) ∙ c.2) ∙ m.2)

  takes_by_index : (p : Object) (i q : ℕ) → i < length l → object_at h (survivor i) ≡ p → Takes (forward h l) p q → (place i ≤ q) × (q < place i + width i)
  takes_by_index p i q lt e t =
      let to = forward_at h set l valid can room i lt in
      let x : Takes (forward h l) (object_at h (survivor i)) q = subst (λ o. Takes (forward h l) o q) (sym e) t in
      (omega (arith, x.0), omega (arith, x.1))

  -- a word of the i-th survivor
  pub placed_word : (i k : ℕ) → i < length l → k < width i
      → moved_word (forward h l) h (map (object_at h) l) (place i + k) ≡ get_or (renamed_words (forward h l) h (object_at h (survivor i))) k 0
  placed_word i k lt less =
      let o : Object = object_at h (survivor i) in
      let to = forward_at h set l valid can room i lt in
      let here : Contains (map (object_at h) l) o = Contains-map (object_at h) l (survivor i) (Contains-get_or l i 0 lt) in
      let index : place i + k - forward h l (survivor i) ≡ k = omega arith in
      moved_word_hit (forward h l) h (place i + k) (map (object_at h) l) o here (omega arith, omega arith)
      (λ p m t.
      let c = by_index p m in
      let b = takes_by_index p c.0 (place i + k) c.1 c.2 t in
      let same : c.0 ≡ i = same_taker c.0 i (place i + k) c.1 lt b.0 b.1 (omega arith) (omega arith) in
      sym c.2 ∙ ap (λ x. object_at h (survivor x)) same)
      ∙ ap (λ x. get_or (renamed_words (forward h l) h o) x 0) index

  -- a word that no survivor takes
  pub unplaced_word : (q : ℕ) → ((i : ℕ) → i < length l → (q < place i) ⊎ (place i + width i ≤ q)) → moved_word (forward h l) h (map (object_at h) l) q ≡ 0
  unplaced_word q off =
      moved_word_miss (forward h l) h q (map (object_at h) l)
      (λ p m t.
      let c = by_index p m in
      let b = takes_by_index p c.0 q c.1 c.2 t in
      elim (off c.0 c.1) [ inl low ↦ omega (arith, b.0) | inr high ↦ omega (arith, b.1) ])

-- ---- pieces of one length, one after another

pub length-pieces : {X A : Type 0} (f : X → List A) (w : ℕ) (xs : List X) → ((x : X) → length (f x) ≡ w) → length (flat_map f xs) ≡ length xs * w
length-pieces f w [] e = sym (zero-mul w)
length-pieces f w (x ∷ xs) e =
    let a = length-append (f x) (flat_map f xs) in
    let b = length-pieces f w xs e in
    let c = suc-mul (length xs) w in
    omega (arith, a, b, c, e x)

pub get_or-pieces : {X A : Type 0} (f : X → List A) (w : ℕ) (xs : List X) (t m : ℕ) (e : X) (d : A) → ((x : X) → length (f x) ≡ w) → t < length xs → m < w
    → get_or (flat_map f xs) (t * w + m) d ≡ get_or (f (get_or xs t e)) m d
get_or-pieces f w xs t m e d each lt less =
    let n : length (flat_map f (take t xs)) ≡ t * w = length-pieces f w (take t xs) each ∙ ap (λ x. x * w) (length-take-le t xs (omega arith)) in
    ap (λ x. get_or (flat_map f xs) (x + m) d) (sym n) ∙ get_or-flat_map f xs t m e d lt (omega (arith, each (get_or xs t e)))

pub length-placed_words : (h : Heap) (l : List ℕ) (r : ℕ) → length (placed_words h l r) ≡ h.geometry.w
length-placed_words h l r = length-map-range_with_len (moved_word (forward h l) h (map (object_at h) l)) (start h r) h.geometry.w

pub get_or-placed_words : (h : Heap) (l : List ℕ) (r m : ℕ) → m < h.geometry.w → get_or (placed_words h l r) m 0 ≡ moved_word (forward h l) h (map (object_at h) l) (start h r + m)
get_or-placed_words h l r m lt = get_or-map-range_with_len (moved_word (forward h l) h (map (object_at h) l)) (start h r) h.geometry.w m (start h r + m) 0 lt refl

module _ (h : Heap) (l : List ℕ) (room : need h l ≤ length (free_regions h)) where
  pub length-to_space_words : length (to_space_words h l) ≡ need h l * h.geometry.w
  length-to_space_words = length-pieces (placed_words h l) h.geometry.w (to_space h l) (length-placed_words h l) ∙ ap (λ x. x * h.geometry.w) (length-take-le (need h l) (free_regions h) room)

  -- the words of to-space by their index
  pub get_or-to_space_words : (t m : ℕ) → t < need h l → m < h.geometry.w
      → get_or (to_space_words h l) (t * h.geometry.w + m) 0 ≡ moved_word (forward h l) h (map (object_at h) l) (start h (get_or (free_regions h) t 0) + m)
  get_or-to_space_words t m lt less =
      let n = length-take-le (need h l) (free_regions h) room in
      get_or-pieces (placed_words h l) h.geometry.w (to_space h l) t m 0 0 (length-placed_words h l) (omega arith) less
      ∙ get_or-placed_words h l (get_or (to_space h l) t 0) m less
      ∙ ap (λ r. moved_word (forward h l) h (map (object_at h) l) (start h r + m)) (get_or-take (need h l) (free_regions h) t 0 lt)
