-- A new humongous object, at the start of a run of free regions, keeps the rules of a heap.
use Rattle.std.proofs.Common.{◌≡◌, ◌≢◌, ℕ, ◌+◌, ◌-◌, ◌*◌, ◌%◌, ◌<◌, ◌≤◌, ◌⊎◌, inl, inr, Bool, true, false, cond, ◌&&◌, [], ◌∷◌, ◌++◌, Some, min, refl, sym, ◌∙◌, ap, subst, arith, eqb}
use Rattle.std.proofs.Common.{eq-eqb, ltb, leb, lt-ltb, ltb-true, leb-true, le-leb, div-add-mod'}
use Rattle.std.proofs.lemmas.Bool.{cases_lt, ne_eqb, and_parts}
use Rattle.std.proofs.lemmas.Nat.{le-div}
use Rattle.std.proofs.lemmas.List.FromFn.{get_or-map-range_with_len}
use Rattle.std.proofs.Math.Nat.{mul-le-mul_right, add-mul}
use Rattle.g1_words.specs.Geometry.{most_words}
use Rattle.g1_words.specs.declared.object.Object.{Object}
use Rattle.g1_words.specs.declared.region.Region.{Region}
use Rattle.g1_words.specs.declared.region.Kind.TheVariants.{Free, Ordinary, HumongousFirst, Continuation}
use Rattle.g1_words.specs.Heap.{Heap, free_region, region, kind, top, objects_by, objects_in, object_at}
use Rattle.g1_words.proofs.Shapes.{TakesRun, BeginsRun, IsBuiltBy, IsBuilt}
use Rattle.g1_words.proofs.Standing.{w_pos}
use Rattle.g1_trace.specs.Mutator.{is_humongous, run_length, is_in_run, run_region, grown, region_after, heap_with}
use Rattle.g1_trace.proofs.Laid.{IsUnused}
use Rattle.g1_trace.proofs.NewObject.{new_object, same_region, new_built, other_shaped, zeros_kept}

-- an object takes some region
pub some_regions : (h : Heap) → IsBuilt h → (size : ℕ) → 0 < size → 0 < run_length h size
some_regions h v size pos = let p = w_pos h v in le-div 1 (size + (h.geometry.w - 1)) h.geometry.w p (omega (arith, pos, p))

module _ (h : Heap) (v : IsBuilt h) (r size refs0 root : ℕ) (lt : r < h.geometry.n) (unused : IsUnused h (r * h.geometry.w + top h r) size) (fits : refs0 < size) (small : size ≤ most_words)
    (big : is_humongous h size ≡ true) (there : r + run_length h size ≤ h.geometry.n) (free : (c : ℕ) → c < run_length h size → kind h (r + c) ≡ Free) where
  abbrev j : Heap
  j = heap_with h r size refs0 root

  abbrev new : Object
  new = record { at = r * h.geometry.w + top h r; size = size; refs = refs0 }

  run_or_not : (q : ℕ) → ((r ≤ q) × (q < r + run_length h size)) ⊎ (is_in_run h r size q ≡ false)
  run_or_not q = by (leb r q && ltb q (r + run_length h size)) refl
    where
      by : (b : Bool) → (leb r q && ltb q (r + run_length h size)) ≡ b → ((r ≤ q) × (q < r + run_length h size)) ⊎ ((leb r q && ltb q (r + run_length h size)) ≡ false)
      by true e = let x = and_parts (leb r q) (ltb q (r + run_length h size)) e in inl (leb-true r q x.0, ltb-true q (r + run_length h size) x.1)
      by false e = inr e

  run_test : (q : ℕ) → r ≤ q → q < r + run_length h size → is_in_run h r size q ≡ true
  run_test q low high = λ t. le-leb r q low t && lt-ltb q (r + run_length h size) high t

  count_above : (c : ℕ) → c * h.geometry.w < size → c < run_length h size
  count_above c l =
      let p = w_pos h v in
      let s : (c + 1) * h.geometry.w ≡ c * h.geometry.w + 1 * h.geometry.w = add-mul c 1 h.geometry.w in
      let x : c + 1 ≤ run_length h size = le-div (c + 1) (size + (h.geometry.w - 1)) h.geometry.w p (omega (arith, s, l, p)) in
      omega (arith, x)

  count_below : (c : ℕ) → c < run_length h size → c * h.geometry.w < size
  count_below c l =
      let p = w_pos h v in
      let s : (c + 1) * h.geometry.w ≡ c * h.geometry.w + 1 * h.geometry.w = add-mul c 1 h.geometry.w in
      let d : run_length h size * h.geometry.w + (size + (h.geometry.w - 1)) % h.geometry.w ≡ size + (h.geometry.w - 1) = div-add-mod' (size + (h.geometry.w - 1)) h.geometry.w in
      let le : (c + 1) * h.geometry.w ≤ run_length h size * h.geometry.w = mul-le-mul_right h.geometry.w (omega (arith, l)) in
      omega (arith, s, d, le, p)

  some : 0 < run_length h size
  some = count_above 0 (omega (arith, fits))

  region_at : (q : ℕ) → q < h.geometry.n → region j q ≡ cond (is_in_run h r size q) (run_region h r size q) (region h q)
  region_at q l =
      get_or-map-range_with_len (region_after h r size) 0 h.geometry.n q q free_region l (omega arith)
      ∙ (λ t. cond (big t) (cond (is_in_run h r size q) (run_region h r size q) (region h q)) (cond (eqb q r) (grown h r size) (region h q)))

  in_heap : (q : ℕ) → q < r + run_length h size → q < h.geometry.n
  in_heap q l = let t = there in omega (arith, t, l)

  region_run : (q : ℕ) → r ≤ q → q < r + run_length h size → region j q ≡ run_region h r size q
  region_run q low high = region_at q (in_heap q high) ∙ ap (λ b. cond b (run_region h r size q) (region h q)) (run_test q low high)

  kind_here : kind j r ≡ HumongousFirst
  kind_here = let s = some in ap (λ (z : Region). z.kind) (region_run r (omega arith) (omega (arith, s))) ∙ ap (λ b. cond b HumongousFirst Continuation) (eq-eqb r r refl)

  kind_later : (q : ℕ) → r < q → q < r + run_length h size → kind j q ≡ Continuation
  kind_later q low high =
      ap (λ (z : Region). z.kind) (region_run q (omega (arith, low)) high) ∙ ap (λ b. cond b HumongousFirst Continuation) (ne_eqb q r (λ e. absurd (omega (arith, e, low))))

  top_run : (q : ℕ) → r ≤ q → q < r + run_length h size → top j q ≡ min h.geometry.w (size - (q - r) * h.geometry.w)
  top_run q low high = ap (λ (z : Region). z.top) (region_run q low high)

  off_run : (q : ℕ) → is_in_run h r size q ≡ false → q ≡ r → ⊥
  off_run q e f = let s = some in let t : is_in_run h r size q ≡ true = run_test q (omega (arith, f)) (omega (arith, f, s)) in clash (sym t ∙ e)
    where
      clash : true ≡ false → ⊥
      clash z = cc

  region_else : (q : ℕ) → q < h.geometry.n → is_in_run h r size q ≡ false → region j q ≡ region h q
  region_else q l e = region_at q l ∙ ap (λ b. cond b (run_region h r size q) (region h q)) e

  was_free : (q : ℕ) → r ≤ q → q < r + run_length h size → kind h q ≡ Free
  was_free q low high = let e : r + (q - r) ≡ q = omega (arith, low) in ap (kind h) (sym e) ∙ free (q - r) (omega (arith, low, high))

  was_low : (q : ℕ) → r ≤ q → q < r + run_length h size → top h q ≡ 0
  was_low q low high = subst (IsBuiltBy h q) (was_free q low high) (v.shaped q (in_heap q high))

  was_empty : (q : ℕ) → r ≤ q → q < r + run_length h size → objects_in h q ≡ []
  was_empty q low high = ap (λ k. objects_by k h q) (was_free q low high)

  r_in : r < r + run_length h size
  r_in = let s = some in omega (arith, s)

  low_here : top h r ≡ 0
  low_here = was_low r (omega arith) r_in

  place : r * h.geometry.w + top h r ≡ r * h.geometry.w
  place = let z = low_here in omega (arith, z)

  object_here : object_at j (r * h.geometry.w) ≡ new
  object_here = ap (object_at j) (sym place) ∙ new_object h v r size refs0 root lt unused fits small

  size_here : (object_at j (r * h.geometry.w)).size ≡ size
  size_here = ap (λ (o : Object). o.size) object_here

  pub humongous_here : objects_in j r ≡ objects_in h r ++ new ∷ []
  humongous_here =
      ap (λ k. objects_by k j r) kind_here ∙ ap (λ o. o ∷ []) object_here ∙ ap (λ os. os ++ new ∷ []) (sym (was_empty r (omega arith) r_in))

  pub humongous_elsewhere : (q : ℕ) → q < h.geometry.n → (q ≡ r → ⊥) → objects_in j q ≡ objects_in h q
  humongous_elsewhere q l n = elim (run_or_not q) [
    | inl x ↦ ap (λ k. objects_by k j q) (kind_later q (after x.0) x.1) ∙ sym (was_empty q x.0 x.1)
    | inr e ↦ same_region h v r size refs0 root lt unused fits small q l (region_else q l e)
  ]
    where
      after : r ≤ q → r < q
      after le = elim (cases_lt r q) [ inl x ↦ x | inr ge ↦ (let e : q ≡ r = omega (arith, le, ge) in absurd (n e)) ]

  low_room : top h r < h.geometry.w
  low_room = let z = low_here in let p = w_pos h v in omega (arith, z, p)

  used_off : (x : ℕ) → kind h x ≢ Free → is_in_run h r size x ≡ false
  used_off x n = elim (run_or_not x) [ inl y ↦ absurd (n (was_free x y.0 y.1)) | inr e ↦ e ]

  runs_stay : (x : ℕ) → x < h.geometry.n → (kind h x ≡ HumongousFirst) ⊎ (kind h x ≡ Continuation) → region j x ≡ region h x
  runs_stay x l c =
      region_else x l (used_off x (λ z. elim c [
        | inl two ↦ (let clash : HumongousFirst ≡ Free = sym two ∙ z in cc)
        | inr three ↦ (let clash : Continuation ≡ Free = sym three ∙ z in cc)
      ]))

  -- a used region keeps its kind
  pub humongous_stay : (x : ℕ) → kind h x ≢ Free → x < h.geometry.n → kind j x ≡ kind h x
  humongous_stay x n l = ap (λ (q : Region). q.kind) (region_else x l (used_off x n))

  no_first : kind h r ≢ HumongousFirst
  no_first e = let clash : Free ≡ HumongousFirst = sym (was_free r (omega arith) r_in) ∙ e in cc

  new_run : TakesRun j r size
  new_run c l =
      let k = count_above c l in
      let e : r + c - r ≡ c = omega arith in (
        in_heap (r + c) (omega (arith, k)),
        top_run (r + c) (omega arith) (omega (arith, k)) ∙ ap (λ x. min h.geometry.w (size - x * h.geometry.w))
            e,
        λ p. kind_later (r + c) (omega (arith, p)) (omega (arith, k)),
      )

  new_first : BeginsRun j r
  new_first = let f = sym object_here in record {
    refs = subst (λ (o : Object). o.refs < o.size) f fits;
    humongous = subst (λ (o : Object). 3 * h.geometry.w < 4 * o.size) f (ltb-true (3 * h.geometry.w) (4 * size) big);
    run = subst (λ (o : Object). TakesRun j r o.size) f new_run;
  }

  shaped : (q : ℕ) → q < h.geometry.n → IsBuiltBy j q (kind j q)
  shaped q l = elim (run_or_not q) [
    | inr e ↦ other_shaped h v r size refs0 root lt unused fits small low_room no_first runs_stay q l (off_run q e) (region_else q l e)
    | inl x ↦ elim (cases_lt r q) [
      | inl later ↦ subst (IsBuiltBy j q) (sym (kind_later q later x.1)) (r, kind_here, later, subst (λ z. (q - r) * h.geometry.w < z) (sym size_here) (count_below (q - r) (omega (arith, x))))
      | inr ge ↦ (let e : r ≡ q = omega (arith, ge, x) in subst (λ z. IsBuiltBy j z (kind j z)) e (subst (IsBuiltBy j r) (sym kind_here) new_first))
    ]
  ]

  pub humongous_built : IsBuilt j
  humongous_built = new_built h v r size refs0 root lt unused fits small humongous_here humongous_elsewhere shaped
      (zeros_kept h v r size refs0 root lt unused fits small low_room (λ q l. elim (run_or_not q) [
        | inl x ↦ let z = was_low q x.0 x.1 in omega (arith, z)
        | inr e ↦ let t : top j q ≡ top h q = ap (λ (z : Region). z.top) (region_else q l e) in omega (arith, t)
      ]) (
      let t = top_run r (omega arith) r_in in
      let z : r - r ≡ 0 = omega arith in
      let y : (r - r) * h.geometry.w ≡ 0 = ap (λ x. x * h.geometry.w) z ∙ (let q : 0 * h.geometry.w ≡ 0 = omega arith in q) in
      let p = w_pos h v in
      let low = low_here in
      omega (arith, t, y, p, fits, low)))
      (λ q e.
      let same : h.current ≡ Some q = sym (λ t. cond (big t) h.current (Some r)) ∙ e in
      let old = v.current q same in
      (old.0, humongous_stay q (λ f. let clash : Ordinary ≡ Free = sym old.1 ∙ f in cc) old.0 ∙ old.1))
