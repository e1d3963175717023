-- Two images with one full text are one image.
use Rattle.std.proofs.Common.{◌≡◌, ℕ, zero, suc, ◌+◌, ◌*◌, ◌/◌, ◌%◌, ◌<◌, ◌≤◌, inl, inr, List, [], ◌++◌, length, get_or, drop, map, flat_map, sym, ◌∙◌, ap, subst, arith, Contains}
use Rattle.std.proofs.Common.{append_assoc, div-add-mod', mod-lt, ext_get_or}
use Rattle.std.specs.Prelude.{slice_index}
use Rattle.std.specs.List.{range_with_len}
use Rattle.std.proofs.Math.Nat.{div-lt_iff_lt-mul}
use Rattle.std.proofs.lemmas.Bool.{cases_lt}
use Rattle.std.proofs.lemmas.Fmt.{decimal_injective}
use Rattle.std.proofs.lemmas.List.FromFn.{length-map-range_with_len}
use Rattle.std.proofs.lemmas.List.{length-map}
use Rattle.g1_words.specs.Heap.{free_region, region, kind, top, pinned, start, objects_in}
use Rattle.g1_words.specs.Valid.{IsValid}
use Rattle.g1_words.specs.declared.object.Object.{Object}
use Rattle.g1_words.specs.declared.region.Region.{Region}
use Rattle.g1_image.specs.Image.{Image, IsImage, remembered_of}
use Rattle.g1_text.specs.Lines.{root_line, root_lines, log_lines, remembered_lines, object_line, region_line, region_lines, heading, image_lines, image_text}
use Rattle.g1_text.proofs.Splitting.{one_list, small_at}
use Rattle.g1_text.proofs.Bounded.{image_are_lines, log_small, remembered_small, roots_small, top_small, objects_few, current_small}
use Rattle.g1_text.proofs.Fields.{word_at, reference_one, current_one, kind_one, pin_one, fronts_one, log_one, remembered_one, ranges_one}
use Rattle.g1_text.proofs.OneImage.{SameWords, IsHeld, objects_one, word_one, held, plain}

-- a region of two images is the same
record SameRegion (i j : Image) (r : ℕ) : Type 0 where
  pub region : region i.heap r ≡ region j.heap r
  pub remembered : remembered_of i r ≡ remembered_of j r
  pub objects : objects_in i.heap r ≡ objects_in j.heap r
  pub words : (o : Object) → Contains (objects_in i.heap r) o → SameWords i.heap.words j.heap.words o

module _ (i j : Image) (good : IsImage i) (fine : IsImage j) (same_n : i.heap.geometry.n ≡ j.heap.geometry.n) where
  region_one : (r : ℕ) (us vs : List (List (List ℕ))) → r < i.heap.geometry.n → region_lines i r ++ us ≡ region_lines j r ++ vs → SameRegion i j r × (us ≡ vs)
  region_one r us vs lt e =
      let there : r < j.heap.geometry.n = omega (arith, lt, same_n) in
      let line : region_line i r ≡ region_line j r = ap (λ (ls : List (List (List ℕ))). get_or ls 0 []) e in
      let ti = top_small i good r lt in
      let tj = top_small j fine r there in
      let fi = objects_few (kind i.heap r) i.heap r in
      let fj = objects_few (kind j.heap r) j.heap r in
      let kinds : kind i.heap r ≡ kind j.heap r = kind_one (kind i.heap r) (kind j.heap r) (ap (word_at 2) line) in
      let tops : top i.heap r ≡ top j.heap r = decimal_injective (top i.heap r) (top j.heap r) (omega (arith, ti)) (omega (arith, tj)) (ap (word_at 4) line) in
      let counts : length (objects_in i.heap r) ≡ length (objects_in j.heap r) =
      decimal_injective (length (objects_in i.heap r)) (length (objects_in j.heap r)) (omega (arith, fi, ti)) (omega (arith, fj, tj)) (ap (word_at 6) line) in
      let cards : length (remembered_of i r) ≡ length (remembered_of j r) = decimal_injective (length (remembered_of i r))
      (length (remembered_of j r)) (omega (arith, (good.remembered r lt).count)) (omega (arith, (fine.remembered r there).count)) (ap (word_at 8) line) in
      let pins : pinned i.heap r ≡ pinned j.heap r = pin_one (pinned i.heap r) (pinned j.heap r) (ap (drop 9) line) in
      let lines_i : List (List (List ℕ)) = map (object_line i.heap.words) (objects_in i.heap r) in
      let lines_j : List (List (List ℕ)) = map (object_line j.heap.words) (objects_in j.heap r) in
      let behind : remembered_lines r (remembered_of i r) ++ (lines_i ++ us) ≡ remembered_lines r (remembered_of j r) ++ (lines_j ++ vs) =
      sym (append_assoc (remembered_lines r (remembered_of i r)) lines_i us) ∙ ap (drop 1) e ∙ append_assoc (remembered_lines r (remembered_of j r)) lines_j vs in
      let sets = remembered_one r (remembered_of i r) (remembered_of j r) (lines_i ++ us) (lines_j ++ vs) cards (remembered_small i good r lt) (remembered_small j fine r there) behind in
      let parts = fronts_one lines_i lines_j us vs (length-map (objects_in i.heap r) (object_line i.heap.words) ∙ counts ∙ sym (length-map (objects_in j.heap r) (object_line j.heap.words))) sets.1 in
      let all = objects_one i.heap.words j.heap.words (objects_in i.heap r) (objects_in j.heap r) (λ o m. plain i good r o lt m) (λ o m. plain j fine r o there m) parts.0 in (
        record {
          region = (λ t. record { kind = kinds t; top = tops t; pinned = pins t });
          remembered = sets.0;
          objects = all.0;
          words = all.1;
        },
        parts.1,
      )

  all_regions : (a m : ℕ) → a + m ≤ i.heap.geometry.n → flat_map (region_lines i) (range_with_len a m) ≡ flat_map (region_lines j) (range_with_len a m) → (r : ℕ) → a ≤ r → r < a + m → SameRegion i j r
  all_regions a zero le e r low high = absurd (omega (arith, low, high))
  all_regions a (suc m) le e r low high =
      let first = region_one a (flat_map (region_lines i) (range_with_len (a + 1) m)) (flat_map (region_lines j) (range_with_len (a + 1) m)) (omega (arith, le)) e in
      elim (cases_lt a r) [
        | inl more ↦ all_regions (a + 1) m (omega (arith, le)) first.1 r (omega (arith, more)) (omega (arith, high))
        | inr ge ↦ (let here : a ≡ r = omega (arith, ge, low) in subst (SameRegion i j) here first.0)
      ]

  module _ (same_w : i.heap.geometry.w ≡ j.heap.geometry.w) (each : (r : ℕ) → r < i.heap.geometry.n → SameRegion i j r) where
    word_same : (a : ℕ) → a < length i.heap.words → slice_index i.heap.words a ≡ slice_index j.heap.words a
    word_same a lt =
        let vi : IsValid i.heap = good.heap in
        let vj : IsValid j.heap = fine.heap in
        let w : ℕ = i.heap.geometry.w in
        let some : 0 < w = omega (arith, vi.limits.w_least) in
        let r : ℕ = a / w in
        let q : ℕ = a % w in
        let inside : a < i.heap.geometry.n * w = omega (arith, lt, vi.word_count) in
        let below : r < i.heap.geometry.n = (div-lt_iff_lt-mul some).1 inside in
        let sum : r * w + q ≡ a = div-add-mod' a w in
        let small : q < w = mod-lt a some in
        elim (cases_lt q (top i.heap r)) [
          | inl used ↦
              let h : IsHeld i.heap a = held i.heap r a vi below (omega (arith, sum)) (omega (arith, sum, used)) in
              let there : h.home < j.heap.geometry.n = (let l = h.in_heap in omega (arith, l, same_n)) in
              let in_j : Contains (objects_in j.heap h.home) h.object = subst (λ os. Contains os h.object) (each h.home h.in_heap).objects h.member in
              word_one i.heap.words j.heap.words h.object a (plain i good h.home h.object h.in_heap h.member).object
              (plain j fine h.home h.object there in_j).object ((each h.home h.in_heap).words h.object h.member) h.from h.to
          | inr unused ↦
              let there : r < j.heap.geometry.n = omega (arith, below, same_n) in
              let tops : top i.heap r ≡ top j.heap r = ap (λ (x : Region). x.top) (each r below).region in
              let place : start j.heap r + q ≡ a = ap (λ x. r * x + q) (sym same_w) ∙ sum in
              ap (slice_index i.heap.words) (sym sum) ∙ vi.zero_above r q below unused small
              ∙ sym (vj.zero_above r q there (omega (arith, tops, unused)) (omega (arith, small, same_w))) ∙ ap (slice_index j.heap.words) place
        ]

    words_same : i.heap.words ≡ j.heap.words
    words_same =
        let products : i.heap.geometry.n * i.heap.geometry.w ≡ j.heap.geometry.n * j.heap.geometry.w = (λ t. same_n t * same_w t) in
        let vi : IsValid i.heap = good.heap in
        let vj : IsValid j.heap = fine.heap in
        ext_get_or 0 i.heap.words j.heap.words (omega (arith, vi.word_count, vj.word_count, products)) word_same

    regions_same : i.heap.regions ≡ j.heap.regions
    regions_same =
        let vi : IsValid i.heap = good.heap in
        let vj : IsValid j.heap = fine.heap in
        ext_get_or free_region i.heap.regions j.heap.regions (omega (arith, vi.region_count, vj.region_count, same_n)) (λ r lt. (each r (omega (arith, lt, vi.region_count))).region)

    sets_same : i.remembered ≡ j.remembered
    sets_same = ext_get_or [] i.remembered j.remembered (omega (arith, good.one_each, fine.one_each, same_n)) (λ r lt. (each r (omega (arith, lt, good.one_each))).remembered)

pub one_image : (i j : Image) → IsImage i → IsImage j → image_text i ≡ image_text j → i ≡ j
one_image i j good fine e =
    let lines : image_lines i ≡ image_lines j = one_list (image_lines i) (image_lines j) (image_are_lines i good) (image_are_lines j fine) e in
    let head : heading i ≡ heading j = ap (λ (ls : List (List (List ℕ))). get_or ls 0 []) lines in
    let vi : IsValid i.heap = good.heap in
    let vj : IsValid j.heap = fine.heap in
    let li = vi.limits in
    let lj = vj.limits in
    let same_w : i.heap.geometry.w ≡ j.heap.geometry.w = decimal_injective i.heap.geometry.w j.heap.geometry.w (omega (arith, li.w_most)) (omega (arith, lj.w_most)) (ap (word_at 1) head) in
    let same_k : i.heap.geometry.k ≡ j.heap.geometry.k = decimal_injective i.heap.geometry.k j.heap.geometry.k (omega (arith, li.k_most)) (omega (arith, lj.k_most)) (ap (word_at 2) head) in
    let same_n : i.heap.geometry.n ≡ j.heap.geometry.n = decimal_injective i.heap.geometry.n j.heap.geometry.n (omega (arith, li.n_most)) (omega (arith, lj.n_most)) (ap (word_at 3) head) in
    let roots : length i.heap.roots ≡ length j.heap.roots = decimal_injective (length i.heap.roots) (length j.heap.roots)
    (omega (arith, vi.root_count)) (omega (arith, vj.root_count)) (ap (word_at 5) head) in
    let dirty : length i.log ≡ length j.log = decimal_injective (length i.log) (length j.log) (omega (arith, good.log.count)) (omega (arith, fine.log.count)) (ap (word_at 7) head) in
    let current : i.heap.current ≡ j.heap.current = current_one i.heap.current j.heap.current
    (current_small i.heap.current i.heap.geometry.n li.n_most vi.current_in) (current_small j.heap.current j.heap.geometry.n lj.n_most vj.current_in) (ap (word_at 9) head) in
    let line_i : ℕ → List (List ℕ) = λ m. root_line m (slice_index i.heap.roots m) in
    let line_j : ℕ → List (List ℕ) = λ m. root_line m (slice_index j.heap.roots m) in
    let table_i : List (List (List ℕ)) = flat_map (region_lines i) (range_with_len 0 i.heap.geometry.n) in
    let table_j : List (List (List ℕ)) = flat_map (region_lines j) (range_with_len 0 j.heap.geometry.n) in
    let front = fronts_one (root_lines i.heap.roots) (root_lines j.heap.roots) (log_lines i.log ++ table_i) (log_lines j.log ++ table_j)
    (length-map-range_with_len line_i 0 (length i.heap.roots) ∙ roots ∙ sym (length-map-range_with_len line_j 0 (length j.heap.roots)))
    (sym (append_assoc (root_lines i.heap.roots) (log_lines i.log) table_i) ∙ ap (drop 1) lines ∙ append_assoc (root_lines j.heap.roots) (log_lines j.log) table_j) in
    let root_each = ranges_one line_i line_j 0 (length i.heap.roots) (front.0 ∙ ap (λ n. map line_j (range_with_len 0 n)) (sym roots)) in
    let same_roots : i.heap.roots ≡ j.heap.roots = ext_get_or 0 i.heap.roots j.heap.roots roots
    (λ k lt. let z : 0 + k ≡ k = omega arith in
    ap (slice_index i.heap.roots) (sym z) ∙ reference_one (slice_index i.heap.roots (0 + k)) (slice_index j.heap.roots (0 + k))
    (small_at i.heap.roots (0 + k) (roots_small i good)) (small_at j.heap.roots (0 + k) (roots_small j fine)) (ap (word_at 2) (root_each k lt))
    ∙ ap (slice_index j.heap.roots) z) in
    let logs = log_one i.log j.log table_i table_j dirty (log_small i good) (log_small j fine) front.1 in
    let tables : table_i ≡ flat_map (region_lines j) (range_with_len 0 i.heap.geometry.n) = logs.1 ∙ ap (λ n. flat_map (region_lines j) (range_with_len 0 n)) (sym same_n) in
    let each = λ (r : ℕ) (lt : r < i.heap.geometry.n). all_regions i j good fine same_n 0 i.heap.geometry.n (omega arith) tables r (omega arith) (omega (arith, lt)) in
    let words : i.heap.words ≡ j.heap.words = words_same i j good fine same_n same_w each in
    let regions : i.heap.regions ≡ j.heap.regions = regions_same i j good fine same_n same_w each in
    let sets : i.remembered ≡ j.remembered = sets_same i j good fine same_n same_w each in
    λ t. record {
      heap = record {
        geometry = record { w = same_w t; k = same_k t; n = same_n t };
        words = words t;
        regions = regions t;
        roots = same_roots t;
        current = current t;
      };
      remembered = sets t;
      log = logs.0 t;
    }
