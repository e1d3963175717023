-- A write into an object, past its header, keeps the rules of a heap.
use Rattle.std.proofs.Common.{◌≡◌, ℕ, zero, suc, ◌+◌, ◌-◌, ◌*◌, ◌/◌, ◌%◌, ◌^◌, ◌<◌, ◌⊎◌, inl, inr, List, [], ◌∷◌, length, get_or, set, map, flat_map, Contains, refl, sym, ◌∙◌, ap, subst, arith}
use Rattle.std.proofs.lemmas.Bool.{cases_lt}
use Rattle.std.proofs.lemmas.Nat.{div-mul-add}
use Rattle.std.proofs.lemmas.List.{length-set, get_or_past, get_or-set_same, get_or-set_other}
use Rattle.g1_words.specs.declared.object.Object.{Object}
use Rattle.g1_words.specs.declared.region.Kind.{Kind}
use Rattle.g1_words.specs.declared.region.Kind.TheVariants.{Free, Ordinary, HumongousFirst, Continuation}
use Rattle.g1_words.specs.Heap.{Heap, kind, top, region_of, regions, objects, objects_in, object_at, slots}
use Rattle.g1_words.specs.References.{Ref, refs, refs_at, named}
use Rattle.g1_words.proofs.Indices.{range_bounds}
use Rattle.g1_words.proofs.Members.{Contains-flat_map, flat_map_cases, map_cases}
use Rattle.g1_words.proofs.Shapes.{IsTiled, TakesRun, IsBuiltBy, IsBuilt}
use Rattle.g1_words.proofs.Standing.{home, ordinary_word, run_word, word_used, words_apart, built_is_sound, w_pos}
use Rattle.g1_words.proofs.Sound.{named_suc}
use Rattle.g1_trace.proofs.Views.{equal_or_not}
use Rattle.g1_trace.proofs.Ready.{below_end}
use Rattle.g1_trace.proofs.SameObjects.{region_same, flat_map-same, in_heap}

-- object a has the word a + k, which isn't its header; y is written there
module _ (h : Heap) (valid : IsBuilt h) (a k y : ℕ) (here : Contains (objects h) (object_at h a)) (low : 0 < k) (high : k < (object_at h a).size) where
  no_header : (o : Object) → Contains (objects h) o → o.at ≡ a + k → ⊥
  no_header o c e =
      let m = home h valid (object_at h a) here in
      let q = home h valid o c in
      let pos : o.refs < o.size = (built_is_sound h valid).slots_fit o c in
      let z : a + k ≡ o.at + 0 = omega (arith, e) in
      let same : a ≡ o.at = words_apart h valid m.0 q.0 (object_at h a) o k 0 m.1 q.1 high (omega (arith, pos)) z in
      absurd (omega (arith, same, e, low))

  same_word : (q : ℕ) → (q ≡ a + k → ⊥) → get_or (set h.words (a + k) y) q 0 ≡ get_or h.words q 0
  same_word q n = get_or-set_other h.words (a + k) q y 0 n

  same_object : (q : ℕ) → (q ≡ a + k → ⊥) → object_at (record h { words = set h.words (a + k) y }) q ≡ object_at h q
  same_object q n = ap (λ x. record { at = q; size = x / 2 ^ 32; refs = x % 2 ^ 32 }) (same_word q n)

  pub same_in : (r : ℕ) → r < h.geometry.n → objects_in (record h { words = set h.words (a + k) y }) r ≡ objects_in h r
  same_in r lt = region_same h (record h { words = set h.words (a + k) y }) r refl refl (λ o m. same_word o.at (no_header o (in_heap h r lt o m)))

  pub same_objects : objects (record h { words = set h.words (a + k) y }) ≡ objects h
  same_objects = flat_map-same (objects_in (record h { words = set h.words (a + k) y })) (objects_in h) (regions h) (λ r m. same_in r (let b = range_bounds 0 h.geometry.n r m in omega (arith, b)))

  -- the word written is no first word of a humongous object
  not_first : (r : ℕ) → kind h r ≡ HumongousFirst → r * h.geometry.w ≡ a + k → ⊥
  not_first r two e =
      let m = home h valid (object_at h a) here in
      let p = w_pos h valid in
      let start : region_of h (a + k) ≡ r = ap (λ x. x / h.geometry.w) (sym e)
      ∙ (let z : r * h.geometry.w ≡ r * h.geometry.w + 0 = omega arith in ap (λ x. x / h.geometry.w) z ∙ div-mul-add r h.geometry.w 0 p) in
      elim m.2.2 [
        | inl x ↦
            let o = ordinary_word h valid m.0 (object_at h a) k x high in
            let clash : Ordinary ≡ HumongousFirst = sym x.kind ∙ ap (kind h) (sym o.0 ∙ start) ∙ two in cc
        | inr x ↦
            let o = run_word h valid m.0 (object_at h a) k x high in
            let q = x.first.run o.0 o.3 in
            elim (cases_lt 0 o.0) [
              | inl lt ↦ let clash : Continuation ≡ HumongousFirst = sym (q.2 lt) ∙ ap (kind h) (sym o.1 ∙ start) ∙ two in cc
              | inr ge ↦ let z : r ≡ m.0 = (let s : m.0 + o.0 ≡ r = sym o.1 ∙ start in omega (arith, s, ge)) in let at = x.at in
                  let w : r * h.geometry.w ≡ m.0 * h.geometry.w = ap (λ v. v * h.geometry.w) z in absurd (omega (arith, at, w, e, low))
            ]
      ]

  tiled_kept : (b : ℕ) (os : List Object) (end : ℕ) → ((o : Object) → Contains os o → Contains (objects h) o) → IsTiled h b os end → IsTiled (record h { words = set h.words (a + k) y }) b os end
  tiled_kept b [] end f t = t
  tiled_kept b (o ∷ os) end f t =
      let at : o.at ≡ b = ap (λ (x : Object). x.at) t.0 in
      (t.0 ∙ sym (same_object b (λ e. no_header o (f o (zero, omega arith, refl)) (at ∙ e))), t.1, tiled_kept (b + o.size) os end (λ q g. f q (suc g.0, omega (arith, g.1), g.2)) t.2)

  first_kept : (r : ℕ) → kind h r ≡ HumongousFirst → object_at (record h { words = set h.words (a + k) y }) (r * h.geometry.w) ≡ object_at h (r * h.geometry.w)
  first_kept r two = same_object (r * h.geometry.w) (not_first r two)

  shaped_kept : (r : ℕ) (m : Kind) → r < h.geometry.n → kind h r ≡ m → IsBuiltBy h r m → IsBuiltBy (record h { words = set h.words (a + k) y }) r m
  shaped_kept r Free lt e s = s
  shaped_kept r Ordinary lt e s = (
    s.0,
    s.1,
    subst (λ os. IsTiled (record h { words = set h.words (a + k) y }) (r * h.geometry.w) os (r * h.geometry.w + top h r)) (sym (same_in r lt))
        (tiled_kept (r * h.geometry.w) (objects_in h r) (r * h.geometry.w + top h r) (in_heap h r lt) s.2),
  )
  shaped_kept r HumongousFirst lt e s =
      let q : object_at h (r * h.geometry.w) ≡ object_at (record h { words = set h.words (a + k) y }) (r * h.geometry.w) = sym (first_kept r e) in
      record {
        refs = subst (λ (o : Object). o.refs < o.size) q s.refs;
        humongous = subst (λ (o : Object). 3 * h.geometry.w < 4 * o.size) q s.humongous;
        run = subst (λ (o : Object). TakesRun h r o.size) q s.run;
      }
  shaped_kept r Continuation lt e s = (s.0, s.1, s.2, subst (λ (o : Object). (r - s.0) * h.geometry.w < o.size) (sym (first_kept s.0 s.1)) s.3)

  -- the references after: those that were there, and what is written
  pub refs_cases : (e : Ref) → Contains (refs (record h { words = set h.words (a + k) y })) e
      → Contains (refs h) e ⊎ ((e.slot ≡ a + k) × (y ≡ suc e.target) × ((o : Object) × Contains (objects h) o × Contains (slots o) (a + k)))
  refs_cases e m =
      let f : Object → List Ref = λ o. flat_map (refs_at (record h { words = set h.words (a + k) y })) (slots o) in
      let x = flat_map_cases f (objects h) e (subst (λ os. Contains (flat_map f os) e) same_objects m) in
      let s = flat_map_cases (refs_at (record h { words = set h.words (a + k) y })) (slots x.0) e x.2 in
      elim (equal_or_not s.0 (a + k)) [
        | inl n ↦ inl (Contains-flat_map (λ o. flat_map (refs_at h) (slots o)) (objects h) x.0 e x.1 (Contains-flat_map (refs_at h) (slots x.0) s.0 e s.1
            (subst (λ z. Contains (map (λ b. record { slot = s.0; target = b }) (named z)) e) (same_word s.0 n) s.2)))
        | inr q ↦
            let t = map_cases (λ b. record { slot = s.0; target = b }) (named (get_or (set h.words (a + k) y) s.0 0)) e s.2 in
            let len : a + k < length h.words = in_words in
            let wrote : get_or (set h.words (a + k) y) s.0 0 ≡ y = ap (λ z. get_or (set h.words (a + k) y) z 0) q ∙ get_or-set_same h.words (a + k) y 0 len in
            inr (
              ap (λ (z : Ref). z.slot) (sym t.2) ∙ q,
              sym wrote ∙ named_suc (get_or (set h.words (a + k) y) s.0 0) t.0 t.1
                  ∙ ap (λ (z : Ref). suc z.target) t.2,
              (x.0, x.1, subst (Contains (slots x.0)) q s.1),
            )
      ]
    where
      in_words : a + k < length h.words
      in_words =
          let laid = below_end h valid (a + k) (region_of h (a + k)) refl (let m = home h valid (object_at h a) here in (word_used h valid m.0 (object_at h a) k m.2 high).0) in
          let n : length h.words ≡ h.geometry.n * h.geometry.w = valid.word_count in
          omega (arith, laid, n)

  module _ (fits : y < 2 ^ 64) (names : (o : Object) → Contains (objects h) o → Contains (slots o) (a + k) → (b : ℕ) → y ≡ suc b → Contains (objects h) (object_at h b)) where
    object_kept : (q : ℕ) → Contains (objects h) (object_at h q) → Contains (objects (record h { words = set h.words (a + k) y })) (object_at (record h { words = set h.words (a + k) y }) q)
    object_kept q c =
        subst (λ (o : Object). Contains (objects (record h { words = set h.words (a + k) y })) o) (sym (same_object q (no_header (object_at h q) c)))
        (subst (λ os. Contains os (object_at h q)) (sym same_objects) c)

    pub written_built : IsBuilt (record h { words = set h.words (a + k) y })
    written_built = record {
      limits = valid.limits;
      word_count = length-set h.words (a + k) y ∙ valid.word_count;
      word_fits = λ q. elim (equal_or_not q (a + k)) [
        | inl n ↦ subst (λ x. x < 2 ^ 64) (sym (same_word q n)) (valid.word_fits q)
        | inr e ↦ elim (cases_lt (a + k) (length h.words)) [
          | inl lt ↦ subst (λ x. x < 2 ^ 64) (sym (ap (λ z. get_or (set h.words (a + k) y) z 0) e ∙ get_or-set_same h.words (a + k) y 0 lt)) fits
          | inr ge ↦ subst (λ x. x < 2 ^ 64) (sym (get_or_past (set h.words (a + k) y) q 0 (let n = length-set h.words (a + k) y in omega (arith, n, ge, e)))) (omega arith)
        ]
      ];
      region_count = valid.region_count;
      root_count = valid.root_count;
      shaped = λ r lt. shaped_kept r (kind h r) lt refl (valid.shaped r lt);
      pins = valid.pins;
      zero_above = λ r m lt le small. same_word (r * h.geometry.w + m) (λ e.
          let s = home h valid (object_at h a) here in
          let u = word_used h valid s.0 (object_at h a) k s.2 high in
          let at : region_of h (a + k) ≡ r = ap (region_of h) (sym e) ∙ div-mul-add r h.geometry.w m small in
          let below : a + k < r * h.geometry.w + top h r = subst (λ x. a + k < x * h.geometry.w + top h x) at u.2 in
          absurd (omega (arith, below, e, le))) ∙ valid.zero_above r m lt le small;
      root_named = λ q c. object_kept q (valid.root_named q c);
      slot_named = λ e c. elim (refs_cases e c) [
        | inl m ↦ object_kept e.target (valid.slot_named e m)
        | inr x ↦ object_kept e.target (names x.2.0 x.2.1 x.2.2 e.target x.1)
      ];
      current = valid.current;
    }
