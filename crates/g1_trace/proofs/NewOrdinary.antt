-- A new ordinary object, at the top of a region, keeps the rules of a heap.
use Rattle.std.proofs.Common.{◌≡◌, ◌≢◌, ℕ, ◌+◌, ◌*◌, ◌<◌, ◌≤◌, ◌⊎◌, inl, inr, Bool, true, false, cond, [], ◌∷◌, ◌++◌, Some, refl, sym, ◌∙◌, ap, subst, arith, eqb, eqb-true, eq-eqb, ltb-false}
use Rattle.std.proofs.lemmas.List.FromFn.{get_or-map-range_with_len}
use Rattle.std.proofs.lemmas.Bool.{ne_eqb}
use Rattle.g1_words.specs.Geometry.{most_words}
use Rattle.g1_words.specs.declared.object.Object.{Object}
use Rattle.g1_words.specs.declared.region.Region.{Region}
use Rattle.g1_words.specs.declared.region.Kind.TheVariants.{Free, Ordinary, HumongousFirst, Continuation}
use Rattle.g1_words.specs.Heap.{Heap, free_region, region, kind, top, objects_by, objects_in, tiles}
use Rattle.g1_words.proofs.Shapes.{IsTiled, IsBuiltBy, IsBuilt}
use Rattle.g1_trace.specs.Mutator.{is_humongous, is_in_run, run_region, grown, region_after, heap_with}
use Rattle.g1_trace.proofs.Laid.{IsUnused}
use Rattle.g1_trace.proofs.Views.{equal_or_not}
use Rattle.g1_trace.proofs.NewObject.{tiled_tiles, tiled_append, new_object, same_region, tiled_kept, new_built, other_shaped, zeros_kept}
use Rattle.g1_trace.proofs.SameObjects.{in_heap}

not_equal_at : (x y : ℕ) (b : Bool) → eqb x y ≡ b → (x ≡ y → ⊥) → eqb x y ≡ false
not_equal_at x y true e n = absurd (n (eqb-true x y e))
not_equal_at x y false e n = e

module _ (h : Heap) (v : IsBuilt h) (r size refs0 root : ℕ) (lt : r < h.geometry.n) (unused : IsUnused h (r * h.geometry.w + top h r) size) (fits : refs0 < size) (small : size ≤ most_words)
    (plain : is_humongous h size ≡ false) (inside : top h r + size ≤ h.geometry.w) (usable : (kind h r ≡ Ordinary) ⊎ ((kind h r ≡ Free) × (top h r ≡ 0))) where
  abbrev j : Heap
  j = heap_with h r size refs0 root

  abbrev new : Object
  new = record { at = r * h.geometry.w + top h r; size = size; refs = refs0 }

  region_at : (q : ℕ) → q < h.geometry.n → region j q ≡ cond (eqb q r) (grown h r size) (region h q)
  region_at q l =
      get_or-map-range_with_len (region_after h r size) 0 h.geometry.n q q free_region l (omega arith)
      ∙ (λ t. cond (plain t) (cond (is_in_run h r size q) (run_region h r size q) (region h q)) (cond (eqb q r) (grown h r size) (region h q)))

  region_here : region j r ≡ grown h r size
  region_here = region_at r lt ∙ ap (λ b. cond b (grown h r size) (region h r)) (eq-eqb r r refl)

  kind_here : kind j r ≡ Ordinary
  kind_here = ap (λ (q : Region). q.kind) region_here

  top_here : top j r ≡ top h r + size
  top_here = ap (λ (q : Region). q.top) region_here

  region_else : (q : ℕ) → q < h.geometry.n → (q ≡ r → ⊥) → region j q ≡ region h q
  region_else q l n = region_at q l ∙ ap (λ b. cond b (grown h r size) (region h q)) (ne_eqb q r n)

  old_tiled : IsTiled h (r * h.geometry.w) (objects_in h r) (r * h.geometry.w + top h r)
  old_tiled = elim usable [
    | inl k ↦ (subst (IsBuiltBy h r) k (v.shaped r lt)).2
    | inr z ↦ subst (λ os. IsTiled h (r * h.geometry.w) os (r * h.geometry.w + top h r)) (sym (ap (λ k. objects_by k h r) z.0)) (let y = z.1 in omega (arith, y))
  ]

  new_tiled : IsTiled j (r * h.geometry.w) (objects_in h r ++ new ∷ []) (r * h.geometry.w + (top h r + size))
  new_tiled =
      let e : r * h.geometry.w + top h r + size ≡ r * h.geometry.w + (top h r + size) = omega arith in
      subst (λ x. IsTiled j (r * h.geometry.w) (objects_in h r ++ new ∷ []) x) e
      (tiled_append j (r * h.geometry.w) (objects_in h r) (r * h.geometry.w + top h r) new
      (tiled_kept h v r size refs0 root lt unused fits small (r * h.geometry.w) (objects_in h r) (r * h.geometry.w + top h r) (in_heap h r lt) old_tiled)
      (sym (new_object h v r size refs0 root lt unused fits small)) (fits, ltb-false (3 * h.geometry.w) (4 * size) plain))

  pub ordinary_here : objects_in j r ≡ objects_in h r ++ new ∷ []
  ordinary_here =
      ap (λ k. objects_by k j r) kind_here
      ∙ ap (λ x. tiles j x (r * h.geometry.w) (r * h.geometry.w + x)) top_here
      ∙ tiled_tiles j (top h r + size) (r * h.geometry.w) (objects_in h r ++ new ∷ []) (r * h.geometry.w + (top h r + size)) new_tiled (omega arith)

  pub ordinary_elsewhere : (q : ℕ) → q < h.geometry.n → (q ≡ r → ⊥) → objects_in j q ≡ objects_in h q
  ordinary_elsewhere q l n = same_region h v r size refs0 root lt unused fits small q l (region_else q l n)

  low_room : top h r < h.geometry.w
  low_room = omega (arith, inside, fits)

  no_first : kind h r ≢ HumongousFirst
  no_first e = elim usable [ inl x ↦ let clash : Ordinary ≡ HumongousFirst = sym x ∙ e in cc | inr x ↦ let clash : Free ≡ HumongousFirst = sym x.0 ∙ e in cc ]

  no_later : kind h r ≢ Continuation
  no_later e = elim usable [ inl x ↦ let clash : Ordinary ≡ Continuation = sym x ∙ e in cc | inr x ↦ let clash : Free ≡ Continuation = sym x.0 ∙ e in cc ]

  runs_stay : (x : ℕ) → x < h.geometry.n → (kind h x ≡ HumongousFirst) ⊎ (kind h x ≡ Continuation) → region j x ≡ region h x
  runs_stay x l c = region_else x l (λ e. elim c [ inl two ↦ no_first (ap (kind h) (sym e) ∙ two) | inr three ↦ no_later (ap (kind h) (sym e) ∙ three) ])

  -- a used region keeps its kind
  pub ordinary_stay : (x : ℕ) → kind h x ≢ Free → x < h.geometry.n → kind j x ≡ kind h x
  ordinary_stay x n l = elim (equal_or_not x r) [
    | inl ne ↦ ap (λ (q : Region). q.kind) (region_else x l ne)
    | inr e ↦ elim usable [
      | inl k ↦ ap (kind j) e ∙ kind_here ∙ sym k ∙ ap (kind h) (sym e)
      | inr z ↦ absurd (n (ap (kind h) e ∙ z.0))
    ]
  ]

  pub ordinary_built : IsBuilt j
  ordinary_built = new_built h v r size refs0 root lt unused fits small ordinary_here ordinary_elsewhere
      (λ q l. elim (equal_or_not q r) [
        | inl n ↦ other_shaped h v r size refs0 root lt unused fits small low_room no_first runs_stay q l n (region_else q l n)
        | inr e ↦ subst (λ x. IsBuiltBy j x (kind j x)) (sym e) (subst (IsBuiltBy j r) (sym kind_here)
            (let t = top_here in (
              omega (arith, t, fits),
              omega (arith, t, inside),
              subst (λ os. IsTiled j (r * h.geometry.w) os
                  (r * h.geometry.w + top j r)) (sym ordinary_here) (subst (λ x. IsTiled j (r * h.geometry.w) (objects_in h r ++ new ∷ []) (r * h.geometry.w + x)) (sym top_here) new_tiled),
            )))
      ])
      (zeros_kept h v r size refs0 root lt unused fits small low_room (λ q l. elim (equal_or_not q r) [
        | inl n ↦ let t : top j q ≡ top h q = ap (λ (z : Region). z.top) (region_else q l n) in omega (arith, t)
        | inr e ↦ let t : top j q ≡ top h r + size = ap (top j) e ∙ top_here in let u : top h q ≡ top h r = ap (top h) e in omega (arith, t, u)
      ]) (let t = top_here in omega (arith, t, fits)))
      (λ q e.
      let some : Some r ≡ Some q = sym (λ t. cond (plain t) h.current (Some r)) ∙ e in
      let same : r ≡ q = cc in
      (subst (λ x. x < h.geometry.n) same lt, ap (kind j) (sym same) ∙ kind_here))
