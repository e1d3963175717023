-- A new object put into place, told of a heap's parts.
use Rattle.std.proofs.Common.{◌≡◌, ℕ, suc, ◌+◌, ◌*◌, ◌^◌, ◌<◌, ◌≤◌, inl, inr, Bool, true, false, cond, List, length, get_or, set, map, Option, Some, None, refl, sym, ◌∙◌, ap, subst, arith}
use Rattle.std.proofs.Common.{eqb, ltb, lt-ltb, le-ltb, ltb-false, leb-true, eq-eqb, ext_get_or}
use Rattle.std.specs.Prelude.{◌↔◌, find}
use Rattle.std.specs.List.{range_with_len}
use Rattle.std.proofs.lemmas.Bool.{cases_lt, ne_eqb}
use Rattle.std.proofs.lemmas.List.{length-set, get_or-set_same, get_or-set_other}
use Rattle.std.proofs.lemmas.List.FromFn.{get_or-map-range_with_len, length-map-range_with_len}
use Rattle.g1_words.specs.declared.region.Region.{Region}
use Rattle.g1_words.specs.declared.region.Kind.TheVariants.{Ordinary}
use Rattle.g1_words.specs.Geometry.{Geometry}
use Rattle.g1_words.specs.Heap.{Heap, free_region, region, kind, pinned, top, end, regions}
use Rattle.g1_words.proofs.Indices.{range_bounds}
use Rattle.g1_words.proofs.Shapes.{IsBuilt}
use Rattle.g1_trace.specs.Mutator.{is_humongous, run_length, is_free_region, is_free_run, fits_current, region_for, place_for, is_in_run, run_region, grown, region_after, heap_with}
use Rattle.g1_trace.specs.Placing.{run_taken, ordinary_heap, humongous_heap}
use Rattle.g1_trace.proofs.Views.{equal_or_not}
use Rattle.g1_trace.proofs.Ready.{built_ready, found, free_run, free_top, free_found}
use Rattle.g1_trace.proofs.NewHumongous.{some_regions}

-- ---- the heap put together again

pub ordinary_same : (h before : Heap) (r size refs root header at used : ℕ) (pin : Bool) → before ≡ h → at ≡ end h r → used ≡ top h r + size → pin ≡ pinned h r
    → header ≡ size * 2 ^ 32 + refs
    → ordinary_heap h r size refs root ≡ record {
      geometry = before.geometry;
      words = set before.words at header;
      regions = set before.regions r (record { kind = Ordinary; top = used; pinned = pin });
      roots = set before.roots root (at + 1);
      current = Some r;
    }
ordinary_same h before r size refs root header at used pin e a u k w =
    let next : suc (end h r) ≡ at + 1 = omega (arith, a) in
    let whole : (x : Heap) (p q n m : ℕ) (b : Bool) → Heap = λ x p q n m b. record {
      geometry = x.geometry;
      words = set x.words p m;
      regions = set x.regions r (record { kind = Ordinary; top = q; pinned = b });
      roots = set x.roots root n;
      current = Some r;
    } in
    λ s. whole (sym e s) (sym a s) (sym u s) (next s) (sym w s) (sym k s)

pub humongous_same : (h before : Heap) (r size refs root header at : ℕ) (table : List Region) → before ≡ h → at ≡ end h r
    → table ≡ run_taken h.geometry.w h.regions r size (run_length h size) → header ≡ size * 2 ^ 32 + refs
    → humongous_heap h r size refs root ≡ record {
      geometry = before.geometry;
      words = set before.words at header;
      regions = table;
      roots = set before.roots root (at + 1);
      current = before.current;
    }
humongous_same h before r size refs root header at table e a u w =
    let next : suc (end h r) ≡ at + 1 = omega (arith, a) in
    let whole : (x : Heap) (p n m : ℕ) (rs : List Region) → Heap = λ x p n m rs. record {
      geometry = x.geometry;
      words = set x.words p m;
      regions = rs;
      roots = set x.roots root n;
      current = x.current;
    } in
    λ s. whole (sym e s) (sym a s) (next s) (sym w s) (sym u s)

-- ---- the heap with a new object, by its two cases

module _ (h : Heap) (count : length h.regions ≡ h.geometry.n) (r size refs root : ℕ) where
  pub is_ordinary_heap : r < h.geometry.n → is_humongous h size ≡ false → heap_with h r size refs root ≡ ordinary_heap h r size refs root
  is_ordinary_heap lt plain =
      let table : map (region_after h r size) (regions h) ≡ set h.regions r (grown h r size) =
      ext_get_or free_region (map (region_after h r size) (regions h)) (set h.regions r (grown h r size))
      (size_is ∙ sym count ∙ sym (length-set h.regions r (grown h r size)))
      (λ q l. let small : q < h.geometry.n = (let n = size_is in omega (arith, l, n)) in
      at q small ∙ elim (equal_or_not q r) [
        | inl n ↦ ap (λ b. cond b (grown h r size) (region h q)) (ne_eqb q r n) ∙ sym (get_or-set_other h.regions r q (grown h r size) free_region n)
        | inr e ↦ ap (λ b. cond b (grown h r size) (region h q)) (eq-eqb q r e)
            ∙ sym (ap (λ z. get_or (set h.regions r (grown h r size)) z free_region) e ∙ get_or-set_same h.regions r (grown h r size) free_region (omega (arith, lt, count)))
      ]) in
      λ t. record {
        geometry = h.geometry;
        words = set h.words (end h r) (size * 2 ^ 32 + refs);
        regions = table t;
        roots = set h.roots root (suc (end h r));
        current = cond (plain t) h.current (Some r);
      }
    where
      size_is : length (map (region_after h r size) (regions h)) ≡ h.geometry.n
      size_is = length-map-range_with_len (region_after h r size) 0 h.geometry.n

      at : (q : ℕ) → q < h.geometry.n → get_or (map (region_after h r size) (regions h)) q free_region ≡ cond (eqb q r) (grown h r size) (region h q)
      at q l =
          get_or-map-range_with_len (region_after h r size) 0 h.geometry.n q q free_region l (omega arith)
          ∙ (λ t. cond (plain t) (cond (is_in_run h r size q) (run_region h r size q) (region h q)) (cond (eqb q r) (grown h r size) (region h q)))

  pub is_humongous_heap : is_humongous h size ≡ true → heap_with h r size refs root ≡ humongous_heap h r size refs root
  is_humongous_heap big = λ t. record {
    geometry = h.geometry;
    words = set h.words (end h r) (size * 2 ^ 32 + refs);
    regions = map (λ q. cond (big t) (cond (is_in_run h r size q) (run_region h r size q) (region h q)) (cond (eqb q r) (grown h r size) (region h q))) (range_with_len 0 (sym count t));
    roots = set h.roots root (suc (end h r));
    current = cond (big t) h.current (Some r);
  }

-- what the test of sizes says of a heap
pub humongous_is : (h : Heap) (g : Geometry) (size : ℕ) (b : Bool) → g ≡ h.geometry → ((b ≡ true) ↔ (3 * g.w < 4 * size)) → is_humongous h size ≡ b
humongous_is h g size true e f = lt-ltb (3 * h.geometry.w) (4 * size) (subst (λ (x : Geometry). 3 * x.w < 4 * size) e (f.0 refl))
humongous_is h g size false e f = le-ltb (3 * h.geometry.w) (4 * size) (elim (cases_lt (3 * g.w) (4 * size)) [
  | inl lt ↦ (let clash : false ≡ true = f.1 lt in cc)
  | inr ge ↦ (let same : g.w ≡ h.geometry.w = ap (λ (x : Geometry). x.w) e in omega (arith, ge, same))
])

-- ---- what is known of a place that was found

pub record IsPlace (h : Heap) (size r : ℕ) : Type 0 where
  pub there : r < h.geometry.n
  pub within : end h r + size ≤ length h.words
  pub fits : size ≤ h.geometry.n * h.geometry.w
  pub ordinary : is_humongous h size ≡ false → top h r + size ≤ h.geometry.w
  pub low : is_humongous h size ≡ true → top h r ≡ 0
  pub run : is_humongous h size ≡ true → r + run_length h size ≤ h.geometry.n

module _ (h : Heap) (v : IsBuilt h) (size r : ℕ) (some : 0 < size) (fits : size ≤ h.geometry.n * h.geometry.w) (within : end h r + size ≤ length h.words) where
  in_current : is_humongous h size ≡ false → (c : Option ℕ) → h.current ≡ c → fits_current h size c ≡ true → c ≡ Some r → IsPlace h size r
  in_current plain None e f q = cc
  in_current plain (Some x) e f q =
      let same : x ≡ r = cc in
      record {
        there = subst (λ y. y < h.geometry.n) same (v.current x e).0;
        within = within;
        fits = fits;
        ordinary = λ _. subst (λ y. top h y + size ≤ h.geometry.w) same (leb-true (top h x + size) h.geometry.w f);
        low = λ b. let clash : true ≡ false = sym b ∙ plain in cc;
        run = λ b. let clash : true ≡ false = sym b ∙ plain in cc;
      }

  place_at : (big cur : Bool) → is_humongous h size ≡ big → fits_current h size h.current ≡ cur
      → cond big (find (is_free_run h (run_length h size)) (regions h)) (cond cur h.current (find (is_free_region h) (regions h))) ≡ Some r → IsPlace h size r
  place_at true cur e f q =
      let m = found (is_free_run h (run_length h size)) (regions h) r q in
      let run = free_run h v (run_length h size) r m.1 in
      let b = range_bounds 0 h.geometry.n r m.0 in
      let lt : r < h.geometry.n = omega (arith, b) in
      record {
        there = lt;
        within = within;
        fits = fits;
        ordinary = λ x. let clash : true ≡ false = sym e ∙ x in cc;
        low = λ _. free_top h v r lt (let z : r + 0 ≡ r = omega arith in ap (kind h) (sym z) ∙ run.1 0 (some_regions h v size some));
        run = λ _. run.0;
      }
  place_at false true e f q = in_current e h.current refl f q
  place_at false false e f q =
      let k = free_found h v r q in
      let low : top h r ≡ 0 = free_top h v r k.0 k.1 in
      let le : 4 * size ≤ 3 * h.geometry.w = ltb-false (3 * h.geometry.w) (4 * size) e in
      record {
        there = k.0;
        within = within;
        fits = fits;
        ordinary = λ _. omega (arith, low, le);
        low = λ b. let clash : true ≡ false = sym b ∙ e in cc;
        run = λ b. let clash : true ≡ false = sym b ∙ e in cc;
      }

-- the place that was found for a new object
pub place_is : (h : Heap) → IsBuilt h → (size r : ℕ) → 0 < size → place_for h size ≡ Some r → IsPlace h size r
place_is h v size r some place = by (ltb (h.geometry.n * h.geometry.w) size) refl place
  where
    by : (b : Bool) → ltb (h.geometry.n * h.geometry.w) size ≡ b → cond b None (region_for h size) ≡ Some r → IsPlace h size r
    by true e p = absurd (clash p)
      where
        clash : None ≡ Some r → ⊥
        clash q = cc
    by false e p =
        let le : size ≤ h.geometry.n * h.geometry.w = ltb-false (h.geometry.n * h.geometry.w) size e in
        place_at h v size r some le ((built_ready h v).places size r some le p).in_words (is_humongous h size) (fits_current h size h.current) refl refl p
