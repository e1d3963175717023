-- A new object keeps the rules of a heap, by what becomes of the regions.
use Rattle.std.proofs.Common.{◌≡◌, ◌≢◌, ℕ, zero, suc, ◌+◌, ◌-◌, ◌*◌, ◌/◌, ◌%◌, ◌^◌, ◌<◌, ◌≤◌, ◌⊎◌, inl, inr, Bool, true, false, List, [], ◌∷◌, ◌++◌, set, map, flat_map, Contains, Some, refl}
use Rattle.std.proofs.Common.{sym, ◌∙◌, ap, subst, arith, lt-ltb, le-ltb}
use Rattle.std.proofs.lemmas.Bool.{cases_lt}
use Rattle.std.proofs.lemmas.Nat.{div-mul-add}
use Rattle.std.proofs.lemmas.List.{length-set, get_or-set_same, get_or-set_other}
use Rattle.std.proofs.lemmas.List.FromFn.{length-map-range_with_len, get_or-map-range_with_len}
use Rattle.std.specs.Prelude.{◌==◌, IsTrue, if◌then◌else◌}
use Rattle.std.proofs.lemmas.List.Elements.{Contains-append_left, Contains-push, Contains-push_cases}
use Rattle.g1_words.specs.Geometry.{most_words}
use Rattle.g1_words.specs.declared.object.Object.{Object}
use Rattle.g1_words.specs.declared.region.Region.{Region}
use Rattle.g1_words.specs.declared.region.Kind.{Kind}
use Rattle.g1_words.specs.declared.region.Kind.TheVariants.{Free, Ordinary, HumongousFirst, Continuation}
use Rattle.g1_words.specs.Valid.{MayBePinned}
use Rattle.g1_words.specs.Heap.{Heap, free_region, region, kind, top, word, regions, objects, objects_in, object_at, slots, tiles}
use Rattle.g1_words.specs.References.{Ref, refs, refs_at, named}
use Rattle.g1_words.proofs.Computed.{Contains-range}
use Rattle.g1_words.proofs.Indices.{range_bounds}
use Rattle.g1_words.proofs.Members.{Contains-flat_map, flat_map_cases, none_contains}
use Rattle.g1_words.proofs.Shapes.{IsPlain, IsTiled, TakesRun, IsBuiltBy, IsBuilt}
use Rattle.g1_words.proofs.Standing.{tiled_from, built_is_sound, w_pos}
use Rattle.g1_trace.specs.Mutator.{is_humongous, is_in_run, run_region, grown, region_after, heap_with}
use Rattle.g1_trace.proofs.Laid.{IsUnused}
use Rattle.g1_trace.proofs.Views.{equal_or_not, Contains-set, named-in, in-named}
use Rattle.g1_trace.proofs.SameObjects.{region_same, in_heap}

-- objects that fill the words are the tiles
pub tiled_tiles : (h : Heap) (m a : ℕ) (os : List Object) (end : ℕ) → IsTiled h a os end → end ≤ a + m → tiles h m a end ≡ os
tiled_tiles h zero a [] end t le = refl
tiled_tiles h (suc m) a [] end t le = ap (λ b. elim b as (λ _. List Object) [ true ↦ object_at h a ∷ tiles h m (a + (object_at h a).size) end | false ↦ [] ]) (le-ltb a end (omega (arith, t)))
tiled_tiles h zero a (o ∷ os) end t le =
    let k = tiled_from h (a + o.size) os end t.2 in
    let pos : o.refs < o.size = t.1.0 in absurd (omega (arith, k, pos, le))
tiled_tiles h (suc m) a (o ∷ os) end t le =
    let k = tiled_from h (a + o.size) os end t.2 in
    let pos : o.refs < o.size = t.1.0 in
    let size : o.size ≡ (object_at h a).size = ap (λ (x : Object). x.size) t.0 in
    ap (λ b. elim b as (λ _. List Object) [ true ↦ object_at h a ∷ tiles h m (a + (object_at h a).size) end | false ↦ [] ])
    (lt-ltb a end (omega (arith, k, pos))) ∙ ((λ i. sym t.0 i ∷ tiles h m (a + sym size i) end) ∙ ap (λ xs. o ∷ xs) (tiled_tiles h m (a + o.size) os end t.2 (omega (arith, pos, le))))

pub tiled_append : (h : Heap) (b : ℕ) (os : List Object) (end : ℕ) (new : Object) → IsTiled h b os end → new ≡ object_at h end → IsPlain h new → IsTiled h b (os ++ new ∷ []) (end + new.size)
tiled_append h b [] end new t e p = (e ∙ ap (object_at h) (sym t), p, ap (λ x. x + new.size) t)
tiled_append h b (o ∷ os) end new t e p = (t.0, t.1, tiled_append h (b + o.size) os end new t.2 e p)

-- a region that a new object is placed in is ordinary or isn't pinned
pin_kept : (a b c : Bool) (run more old : Region) → run.pinned ≡ false → more.kind ≡ Ordinary → (IsTrue old.pinned → old.kind ≡ Ordinary) →
    IsTrue (if a then (if b then run else old) else (if c then more else old)).pinned → (if a then (if b then run else old) else (if c then more else old)).kind ≡ Ordinary
pin_kept true true c run more old none k may t = absurd (let clash : false ≡ true = sym none ∙ t in cc)
pin_kept true false c run more old none k may t = may t
pin_kept false b true run more old none k may t = k
pin_kept false b false run more old none k may t = may t

module _ (h : Heap) (v : IsBuilt h) (r size refs0 root : ℕ) (lt : r < h.geometry.n) (unused : IsUnused h (r * h.geometry.w + top h r) size) (fits : refs0 < size) (small : size ≤ most_words) where
  abbrev j : Heap
  j = heap_with h r size refs0 root

  abbrev new : Object
  new = record { at = r * h.geometry.w + top h r; size = size; refs = refs0 }

  same_word : (q : ℕ) → (q ≡ r * h.geometry.w + top h r → ⊥) → word j q ≡ word h q
  same_word q n = get_or-set_other h.words (r * h.geometry.w + top h r) q (size * 2 ^ 32 + refs0) 0 n

  header : word j (r * h.geometry.w + top h r) ≡ size * 2 ^ 32 + refs0
  header = let i = unused.in_words in get_or-set_same h.words (r * h.geometry.w + top h r) (size * 2 ^ 32 + refs0) 0 (omega (arith, i, fits))

  pub new_object : object_at j (r * h.geometry.w + top h r) ≡ new
  new_object =
      let s : (size * 2 ^ 32 + refs0) / 2 ^ 32 ≡ size = omega (arith, fits, small) in
      let t : (size * 2 ^ 32 + refs0) % 2 ^ 32 ≡ refs0 = omega (arith, fits, small) in
      ap (λ x. record { at = r * h.geometry.w + top h r; size = x / 2 ^ 32; refs = x % 2 ^ 32 }) header ∙ (λ i. record { at = r * h.geometry.w + top h r; size = s i; refs = t i })

  same_object : (q : ℕ) → (q ≡ r * h.geometry.w + top h r → ⊥) → object_at j q ≡ object_at h q
  same_object q n = ap (λ x. record { at = q; size = x / 2 ^ 32; refs = x % 2 ^ 32 }) (same_word q n)

  pos_of : (o : Object) → Contains (objects h) o → o.refs < o.size
  pos_of o c = (built_is_sound h v).slots_fit o c

  no_header : (o : Object) → Contains (objects h) o → o.at ≡ r * h.geometry.w + top h r → ⊥
  no_header o c e = let p = pos_of o c in unused.apart o (r * h.geometry.w + top h r) c (omega (arith, e)) (omega (arith, e, p)) (omega arith) (omega (arith, fits))

  -- a region that stays has the objects that it had
  pub same_region : (q : ℕ) → q < h.geometry.n → region j q ≡ region h q → objects_in j q ≡ objects_in h q
  same_region q l e = region_same h j q refl e (λ o m. same_word o.at (no_header o (in_heap h q l o m)))

  pub tiled_kept : (b : ℕ) (os : List Object) (end : ℕ) → ((o : Object) → Contains os o → Contains (objects h) o) → IsTiled h b os end → IsTiled j b os end
  tiled_kept b [] end f t = t
  tiled_kept b (o ∷ os) end f t =
      let at : o.at ≡ b = ap (λ (x : Object). x.at) t.0 in
      (t.0 ∙ sym (same_object b (λ e. no_header o (f o (zero, omega arith, refl)) (at ∙ e))), t.1, tiled_kept (b + o.size) os end (λ q g. f q (suc g.0, omega (arith, g.1), g.2)) t.2)

  -- what is to be shown of the regions: each has its objects, and region r the new one after them
  module _ (here : objects_in j r ≡ objects_in h r ++ new ∷ []) (elsewhere : (q : ℕ) → q < h.geometry.n → q ≢ r → objects_in j q ≡ objects_in h q) where
    object_cases : (o : Object) → Contains (objects j) o → Contains (objects h) o ⊎ (o ≡ new)
    object_cases o m =
        let x = flat_map_cases (objects_in j) (regions h) o m in
        let l : x.0 < h.geometry.n = let b = range_bounds 0 h.geometry.n x.0 x.1 in omega (arith, b) in
        elim (equal_or_not x.0 r) [
          | inl n ↦ inl (Contains-flat_map (objects_in h) (regions h) x.0 o x.1 (subst (λ xs. Contains xs o) (elsewhere x.0 l n) x.2))
          | inr e ↦ elim (Contains-push_cases (objects_in h r) new o (subst (λ xs. Contains xs o) here (subst (λ q. Contains (objects_in j q) o) e x.2))) [
            | inl old ↦ inl (Contains-flat_map (objects_in h) (regions h) r o (subst (Contains (regions h)) e x.1) old)
            | inr q ↦ inr (sym q)
          ]
        ]

    old_stays : (o : Object) → Contains (objects h) o → Contains (objects j) o
    old_stays o m =
        let x = flat_map_cases (objects_in h) (regions h) o m in
        let l : x.0 < h.geometry.n = let b = range_bounds 0 h.geometry.n x.0 x.1 in omega (arith, b) in
        Contains-flat_map (objects_in j) (regions h) x.0 o x.1 (elim (equal_or_not x.0 r) [
          | inl n ↦ subst (λ xs. Contains xs o) (sym (elsewhere x.0 l n)) x.2
          | inr e ↦ subst (λ q. Contains (objects_in j q) o) (sym e) (subst (λ xs. Contains xs o) (sym here)
              (Contains-append_left (objects_in h r) (new ∷ []) o (subst (λ q. Contains (objects_in h q) o) e x.2)))
        ])

    new_there : Contains (objects j) (object_at j (r * h.geometry.w + top h r))
    new_there =
        subst (λ o. Contains (objects j) o) (sym new_object) (Contains-flat_map (objects_in j) (regions h) r new (Contains-range 0 h.geometry.n r (omega arith) (omega (arith, lt)))
        (subst (λ xs. Contains xs new) (sym here) (Contains-push (objects_in h r) new)))

    named_there : (b : ℕ) → Contains (objects h) (object_at h b) → Contains (objects j) (object_at j b)
    named_there b c = subst (λ o. Contains (objects j) o) (sym (same_object b (no_header (object_at h b) c)))
        (old_stays (object_at h b) c)

    -- the new object's slots name nothing
    pub refs_stay : (e : Ref) → Contains (refs j) e → Contains (refs h) e
    refs_stay e m =
        let x = flat_map_cases (λ o. flat_map (refs_at j) (slots o)) (objects j) e m in
        let s = flat_map_cases (refs_at j) (slots x.0) e x.2 in
        let b = range_bounds (x.0.at + 1) x.0.refs s.0 s.1 in
        elim (object_cases x.0 x.1) [
          | inl old ↦
              let p = pos_of x.0 old in
              let n : s.0 ≡ r * h.geometry.w + top h r → ⊥ = λ q. unused.apart x.0 s.0 old (omega (arith, b)) (omega (arith, b, p)) (omega (arith, q)) (omega (arith, q, fits)) in
              Contains-flat_map (λ o. flat_map (refs_at h) (slots o)) (objects h) x.0 e old
              (Contains-flat_map (refs_at h) (slots x.0) s.0 e s.1 (subst (λ z. Contains (map (λ b. record { slot = s.0; target = b }) (named z)) e) (same_word s.0 n) s.2))
          | inr q ↦
              let at : x.0.at ≡ r * h.geometry.w + top h r = ap (λ (o : Object). o.at) q in
              let rs : x.0.refs ≡ refs0 = ap (λ (o : Object). o.refs) q in
              let z : word j s.0 ≡ 0 = same_word s.0 (λ f. absurd (omega (arith, f, b, at))) ∙ unused.zeros s.0 (omega (arith, b, at)) (omega (arith, b, at, rs, fits)) in
              absurd (none_contains e (subst (λ z. Contains (map (λ b. record { slot = s.0; target = b }) (named z)) e) z s.2))
        ]

    pins : (q : ℕ) → q < h.geometry.n → MayBePinned j q
    pins q l =
        subst (λ (x : Region). IsTrue x.pinned → x.kind ≡ Ordinary) (sym (get_or-map-range_with_len (region_after h r size) 0 h.geometry.n q q free_region l (omega arith)))
        (pin_kept (is_humongous h size) (is_in_run h r size q) (q == r) (run_region h r size q) (grown h r size) (region h q) refl refl (v.pins q l))

    pub new_built : ((q : ℕ) → q < h.geometry.n → IsBuiltBy j q (kind j q)) → ((q m : ℕ) → q < h.geometry.n → top j q ≤ m → m < h.geometry.w → word j (q * h.geometry.w + m) ≡ 0)
        → ((q : ℕ) → j.current ≡ Some q → (q < h.geometry.n) × (kind j q ≡ Ordinary)) → IsBuilt j
    new_built shaped zeros current = record {
      limits = v.limits;
      word_count = length-set h.words (r * h.geometry.w + top h r) (size * 2 ^ 32 + refs0) ∙ v.word_count;
      word_fits = λ q. elim (equal_or_not q (r * h.geometry.w + top h r)) [
        | inl n ↦ subst (λ x. x < 2 ^ 64) (sym (same_word q n)) (v.word_fits q)
        | inr e ↦ subst (λ x. x < 2 ^ 64) (sym (ap (word j) e ∙ header)) (omega (arith, fits, small))
      ];
      region_count = length-map-range_with_len (region_after h r size) 0 h.geometry.n;
      root_count = let l = v.root_count in let e = length-set h.roots root (suc (r * h.geometry.w + top h r)) in omega (arith, l, e);
      shaped = shaped;
      pins = pins;
      zero_above = zeros;
      root_named = λ b c. elim (Contains-set h.roots root (suc (r * h.geometry.w + top h r)) (suc b)
          (named-in (set h.roots root (suc (r * h.geometry.w + top h r))) b c)) [
            | inl q ↦ let e : r * h.geometry.w + top h r ≡ b = omega (arith, q) in subst (λ x. Contains (objects j) (object_at j x)) e new_there
            | inr m ↦ named_there b (v.root_named b (in-named h.roots b m))
          ];
      slot_named = λ e c. named_there e.target (v.slot_named e (refs_stay e c));
      current = current;
    }

  -- ---- the regions that the new object leaves alone

  starts_apart : (q m : ℕ) → top h r < h.geometry.w → m < h.geometry.w → q * h.geometry.w + m ≡ r * h.geometry.w + top h r → q ≡ r
  starts_apart q m room l e = sym (div-mul-add q h.geometry.w m l) ∙ ap (λ x. x / h.geometry.w) e ∙ div-mul-add r h.geometry.w (top h r) room

  first_same : (q : ℕ) → top h r < h.geometry.w → (q ≡ r → ⊥) → object_at j (q * h.geometry.w) ≡ object_at h (q * h.geometry.w)
  first_same q room n = same_object (q * h.geometry.w) (λ e. n (starts_apart q 0 room (w_pos h v) (let z : q * h.geometry.w + 0 ≡ q * h.geometry.w = omega arith in z ∙ e)))

  -- region r was no part of a run, and the regions of runs stay
  module _ (room : top h r < h.geometry.w) (no_first : kind h r ≢ HumongousFirst)
      (stay : (x : ℕ) → x < h.geometry.n → (kind h x ≡ HumongousFirst) ⊎ (kind h x ≡ Continuation) → region j x ≡ region h x) where
    run_kept : (q z : ℕ) → kind h q ≡ HumongousFirst → TakesRun h q z → TakesRun j q z
    run_kept q z two run c l =
        let x = run c l in
        let y : (kind h (q + c) ≡ HumongousFirst) ⊎ (kind h (q + c) ≡ Continuation) = elim (cases_lt 0 c) [
          | inl lt ↦ inr (x.2 lt)
          | inr ge ↦ inl (let e : q + c ≡ q = omega (arith, ge) in ap (kind h) e ∙ two)
        ] in
        let k = stay (q + c) x.0 y in
        (x.0, ap (λ (z : Region). z.top) k ∙ x.1, λ lt. ap (λ (z : Region). z.kind) k ∙ x.2 lt)

    other_at : (q : ℕ) (k : Kind) → q < h.geometry.n → (q ≡ r → ⊥) → top j q ≡ top h q → objects_in j q ≡ objects_in h q → kind h q ≡ k → IsBuiltBy h q k → IsBuiltBy j q k
    other_at q Free l n t o k s = t ∙ s
    other_at q Ordinary l n t o k s = (
      subst (λ x. 0 < x) (sym t) s.0,
      subst (λ x. x ≤ h.geometry.w) (sym t) s.1,
      subst (λ os. IsTiled j (q * h.geometry.w) os (q * h.geometry.w + top j q)) (sym o)
          (subst (λ x. IsTiled j (q * h.geometry.w) (objects_in h q) (q * h.geometry.w + x)) (sym t) (tiled_kept (q * h.geometry.w) (objects_in h q) (q * h.geometry.w + top h q) (in_heap h q l) s.2)),
    )
    other_at q HumongousFirst l n t o k s =
        let f = sym (first_same q room n) in
        record {
          refs = subst (λ (x : Object). x.refs < x.size) f s.refs;
          humongous = subst (λ (x : Object). 3 * h.geometry.w < 4 * x.size) f s.humongous;
          run = subst (λ (x : Object). TakesRun j q x.size) f (run_kept q (object_at h (q * h.geometry.w)).size k s.run);
        }
    other_at q Continuation l n t o k s =
        let below = s.2 in
        let f = first_same s.0 room (λ e. no_first (ap (kind h) (sym e) ∙ s.1)) in
        (s.0, ap (λ (z : Region). z.kind) (stay s.0 (omega (arith, below, l)) (inl s.1)) ∙ s.1, s.2, subst (λ (x : Object). (q - s.0) * h.geometry.w < x.size) (sym f) s.3)

    pub other_shaped : (q : ℕ) → q < h.geometry.n → (q ≡ r → ⊥) → region j q ≡ region h q → IsBuiltBy j q (kind j q)
    other_shaped q l n e =
        subst (IsBuiltBy j q) (sym (ap (λ (z : Region). z.kind) e))
        (other_at q (kind h q) l n (ap (λ (z : Region). z.top) e) (same_region q l e) refl (v.shaped q l))

  pub zeros_kept : top h r < h.geometry.w → ((q : ℕ) → q < h.geometry.n → top h q ≤ top j q) → top h r < top j r
      → (q m : ℕ) → q < h.geometry.n → top j q ≤ m → m < h.geometry.w → word j (q * h.geometry.w + m) ≡ 0
  zeros_kept room grow grows q m l le ml =
      same_word (q * h.geometry.w + m) (λ e.
      let same : q ≡ r = starts_apart q m room ml e in
      let t : top j q ≡ top j r = ap (top j) same in
      let w : q * h.geometry.w ≡ r * h.geometry.w = ap (λ x. x * h.geometry.w) same in
      absurd (omega (arith, e, t, w, le, grows)))
      ∙ v.zero_above q m l (let g = grow q l in omega (arith, g, le)) ml
