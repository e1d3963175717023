-- A new object keeps a tracked image.
use Rattle.std.proofs.Common.{◌≡◌, ◌≢◌, ℕ, ◌+◌, ◌*◌, ◌<◌, ◌≤◌, ◌⊎◌, inl, inr, Bool, true, false, cond, [], ◌∷◌, ◌++◌, length, Option, Some, None, refl, sym, ◌∙◌, ap, subst, arith, ltb}
use Rattle.std.proofs.Common.{ltb-false, leb-true}
use Rattle.std.specs.Prelude.{find}
use Rattle.std.proofs.lemmas.Bool.{cases_lt}
use Rattle.std.proofs.lemmas.List.{get_or_past}
use Rattle.g1_words.specs.Geometry.{most_words}
use Rattle.g1_words.specs.declared.object.Object.{Object}
use Rattle.g1_words.specs.declared.region.Kind.TheVariants.{Free, Ordinary}
use Rattle.g1_words.specs.declared.region.Region.{Region}
use Rattle.g1_words.specs.Heap.{Heap, free_region, kind, top, regions, objects_in}
use Rattle.g1_words.proofs.Indices.{range_bounds}
use Rattle.g1_words.proofs.Shapes.{IsBuilt, built}
use Rattle.g1_image.specs.Image.{Image}
use Rattle.g1_image.specs.Cards.{IsTracked}
use Rattle.g1_image.proofs.Covers.{covered_tells}
use Rattle.g1_trace.specs.Mutator.{is_humongous, run_length, is_free_region, is_free_run, fits_current, region_for, place_for, heap_with, with_heap}
use Rattle.g1_trace.proofs.Laid.{IsUnused}
use Rattle.g1_trace.proofs.Ready.{built_ready, found, free_run, free_top, free_found}
use Rattle.g1_trace.proofs.Logging.{image_kept}
use Rattle.g1_trace.proofs.NewObject.{refs_stay}
use Rattle.g1_trace.proofs.NewOrdinary.{ordinary_here, ordinary_elsewhere, ordinary_stay, ordinary_built}
use Rattle.g1_trace.proofs.NewHumongous.{humongous_here, humongous_elsewhere, humongous_stay, humongous_built}

-- past the last region all count as free
used_below : (h : Heap) → length h.regions ≡ h.geometry.n → (r : ℕ) → kind h r ≢ Free → r < h.geometry.n
used_below h e r n = elim (cases_lt r h.geometry.n) [
  | inl lt ↦ lt
  | inr ge ↦ absurd (n (ap (λ (q : Region). q.kind) (get_or_past h.regions r free_region (omega (arith, e, ge)))))
]

module _ (i : Image) (tracked : IsTracked i) (r size refs0 root : ℕ) (unused : IsUnused i.heap (r * i.heap.geometry.w + top i.heap r) size)
    (fits : refs0 < size) (small : size ≤ most_words) (lt : r < i.heap.geometry.n) where
  abbrev h : Heap
  h = i.heap

  abbrev j : Image
  j = with_heap i (heap_with i.heap r size refs0 root)

  abbrev new : Object
  new = record { at = r * i.heap.geometry.w + top i.heap r; size = size; refs = refs0 }

  kept_by : IsBuilt j.heap → ((x : ℕ) → kind i.heap x ≢ Free → x < i.heap.geometry.n → kind j.heap x ≡ kind i.heap x)
      → objects_in j.heap r ≡ objects_in i.heap r ++ new ∷ [] → ((q : ℕ) → q < i.heap.geometry.n → q ≢ r → objects_in j.heap q ≡ objects_in i.heap q) → IsTracked j
  kept_by b stay here elsewhere =
      let v = built i.heap tracked.image.heap in
      record {
        image = image_kept i j refl (λ x n. stay x n (used_below i.heap tracked.image.heap.region_count x n)) tracked.image b refl tracked.image.log;
        covered = (covered_tells j).1 (λ e c. (covered_tells i).0 tracked.covered e
            (refs_stay i.heap v r size refs0 root lt unused fits small here elsewhere e c));
      }

  ordinary_kept : is_humongous i.heap size ≡ false → top i.heap r + size ≤ i.heap.geometry.w → (kind i.heap r ≡ Ordinary) ⊎ ((kind i.heap r ≡ Free) × (top i.heap r ≡ 0)) → IsTracked j
  ordinary_kept plain inside usable =
      let v = built i.heap tracked.image.heap in
      kept_by (ordinary_built i.heap v r size refs0 root lt unused fits small plain inside usable) (ordinary_stay i.heap v r size refs0 root lt unused fits small plain inside usable)
      (ordinary_here i.heap v r size refs0 root lt unused fits small plain inside usable) (ordinary_elsewhere i.heap v r size refs0 root lt unused fits small plain inside usable)

  humongous_kept : is_humongous i.heap size ≡ true → r + run_length i.heap size ≤ i.heap.geometry.n → ((c : ℕ) → c < run_length i.heap size → kind i.heap (r + c) ≡ Free) → IsTracked j
  humongous_kept big there free =
      let v = built i.heap tracked.image.heap in
      kept_by (humongous_built i.heap v r size refs0 root lt unused fits small big there free) (humongous_stay i.heap v r size refs0 root lt unused fits small big there free)
      (humongous_here i.heap v r size refs0 root lt unused fits small big there free) (humongous_elsewhere i.heap v r size refs0 root lt unused fits small big there free)

module _ (i : Image) (tracked : IsTracked i) (r size refs0 root : ℕ) (unused : IsUnused i.heap (r * i.heap.geometry.w + top i.heap r) size) (fits : refs0 < size) (small : size ≤ most_words) where
  in_current : is_humongous i.heap size ≡ false → (c : Option ℕ) → i.heap.current ≡ c → fits_current i.heap size c ≡ true → c ≡ Some r → IsTracked (with_heap i (heap_with i.heap r size refs0 root))
  in_current plain None e f q = cc
  in_current plain (Some x) e f q =
      let same : x ≡ r = cc in
      let k = (built i.heap tracked.image.heap).current x e in
      ordinary_kept i tracked r size refs0 root unused fits small (subst (λ y. y < i.heap.geometry.n) same k.0) plain
      (subst (λ y. top i.heap y + size ≤ i.heap.geometry.w) same (leb-true (top i.heap x + size) i.heap.geometry.w f)) (inl (ap (kind i.heap) (sym same) ∙ k.1))

  new_at : (big cur : Bool) → is_humongous i.heap size ≡ big → fits_current i.heap size i.heap.current ≡ cur
      → cond big (find (is_free_run i.heap (run_length i.heap size)) (regions i.heap))
      (cond cur i.heap.current (find (is_free_region i.heap) (regions i.heap))) ≡ Some r → IsTracked (with_heap i (heap_with i.heap r size refs0 root))
  new_at true cur e f q =
      let v = built i.heap tracked.image.heap in
      let m = found (is_free_run i.heap (run_length i.heap size)) (regions i.heap) r q in
      let run = free_run i.heap v (run_length i.heap size) r m.1 in
      let b = range_bounds 0 i.heap.geometry.n r m.0 in
      humongous_kept i tracked r size refs0 root unused fits small (omega (arith, b)) e run.0 run.1
  new_at false true e f q = in_current e i.heap.current refl f q
  new_at false false e f q =
      let v = built i.heap tracked.image.heap in
      let k = free_found i.heap v r q in
      let low : top i.heap r ≡ 0 = free_top i.heap v r k.0 k.1 in
      let le : 4 * size ≤ 3 * i.heap.geometry.w = ltb-false (3 * i.heap.geometry.w) (4 * size) e in
      ordinary_kept i tracked r size refs0 root unused fits small k.0 e (omega (arith, low, le)) (inr (k.1, low))

-- a new object where the rule of allocation places it keeps the image tracked
pub new_tracked : (i : Image) → IsTracked i → (root refs0 words r : ℕ) → place_for i.heap (1 + refs0 + words) ≡ Some r → IsTracked (with_heap i (heap_with i.heap r (1 + refs0 + words) refs0 root))
new_tracked i tracked root refs0 words r place = by (ltb (i.heap.geometry.n * i.heap.geometry.w) (1 + refs0 + words)) refl place
  where
    by : (b : Bool) → ltb (i.heap.geometry.n * i.heap.geometry.w) (1 + refs0 + words) ≡ b →
        cond b None (region_for i.heap (1 + refs0 + words)) ≡ Some r → IsTracked (with_heap i (heap_with i.heap r (1 + refs0 + words) refs0 root))
    by true e p = absurd (clash p)
      where
        clash : None ≡ Some r → ⊥
        clash q = cc
    by false e p =
        let t : i.heap.geometry.n * i.heap.geometry.w ≤ most_words = tracked.image.heap.limits.words_most in
        let le : 1 + refs0 + words ≤ i.heap.geometry.n * i.heap.geometry.w = ltb-false (i.heap.geometry.n * i.heap.geometry.w) (1 + refs0 + words) e in
        new_at i tracked r (1 + refs0 + words) refs0 root ((built_ready i.heap (built i.heap tracked.image.heap)).places (1 + refs0 + words) r (omega arith) le p) (omega arith) (omega (arith, t, le))
        (is_humongous i.heap (1 + refs0 + words)) (fits_current i.heap (1 + refs0 + words) i.heap.current) refl refl p
