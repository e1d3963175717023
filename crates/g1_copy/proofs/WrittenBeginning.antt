-- A commit that writes the beginning of the words writes them all, if nothing is filled or patched behind it.
use Rattle.std.proofs.Common.{◌≡◌, ℕ, ◌+◌, ◌-◌, ◌*◌, ◌/◌, ◌<◌, ◌≤◌, ◌⊎◌, ◌||◌, inl, inr, false, cond, List, ◌++◌, length, max, take, drop, replicate, flat_map, refl, sym, ◌∙◌, ap, subst, arith}
use Rattle.std.proofs.Common.{length-append}
use Rattle.std.specs.Prelude.{slice_index, slice_index_or}
use Rattle.std.specs.List.{range_with_len}
use Rattle.std.specs.Int.{div_ceil}
use Rattle.std.proofs.Math.Nat.{mul-div_left, add-mul, mul-le-mul_right}
use Rattle.std.proofs.lemmas.Bool.{cases_Bool, cases_lt, false≢true}
use Rattle.std.proofs.lemmas.List.{drop-replicate, take-replicate, length-replicate}
use Rattle.std.proofs.lemmas.Grind.{div_ceil_times}
use Rattle.std.proofs.lemmas.List.FromFn.{get_or-map-range_with_len, length-map-range_with_len}
use Rattle.g1_words.specs.Heap.{free_region, region, region_with}
use Rattle.g1_words.specs.Layout.{end_in, free_regions, need, to_space}
use Rattle.g1_words.specs.Lists.{has}
use Rattle.g1_words.specs.Valid.{IsValid}
use Rattle.g1_words.specs.Words.{AreLaid}
use Rattle.g1_words.specs.declared.region.Region.{Region}
use Rattle.g1_words.specs.declared.region.Kind.TheVariants.{Ordinary}
use Rattle.g1_words.proofs.Firsts.{Distinct}
use Rattle.g1_words.proofs.Lists.{has_both}
use Rattle.g1_words.proofs.NextFit.{free_distinct}
use Rattle.g1_words.proofs.Sound.{w_positive}
use Rattle.g1_image.specs.Image.{Image}
use Rattle.g1_after.specs.Made.{heap_moved}
use Rattle.g1_after.specs.Moved.{new_region}
use Rattle.g1_after.specs.Unnamed.{unnamed_regions}
use Rattle.g1_work.proofs.Slices.{next_slice, slice_left, slice_right, slices_from}
use Rattle.g1_work.specs.Regions.{EverySlice, slice_of}
use Rattle.g1_copy.specs.declared.fates.Fate.{Fate}
use Rattle.g1_copy.specs.declared.fates.Fate.TheVariants.{Freed, Filled, Kept}
use Rattle.g1_copy.specs.Fates.{fate_at}
use Rattle.g1_copy.specs.Patches.{AreBefore}
use Rattle.g1_copy.specs.Prepared.{IsMadeFor, IsUnwritten, Prepared, written}
use Rattle.g1_copy.specs.Slices.{IsWritable, by_fate, patched}
use Rattle.g1_copy.proofs.Committed.{all_writable}
use Rattle.g1_copy.proofs.FatesMade.{has_fate, is_freed, is_filled, is_kept}
use Rattle.g1_copy.proofs.InPlaceSlices.{Distinct-take, patched_part}

-- a slice of zeros
zero_slice : (w k m : ℕ) → k < m → slice_of {A = ℕ} w k (replicate (m * w) 0) ≡ replicate w 0
zero_slice w k m lt =
    let fits = next_slice w k m lt in
    ap (take w) (drop-replicate {X = ℕ} (k * w) (m * w) 0) ∙ take-replicate w (m * w - k * w) 0 (omega (arith, fits))

module _ (p : Prepared) (i : Image) (set l : List ℕ) (valid : IsValid i.heap) (made : IsMadeFor p i set l) (m : ℕ) (few : m ≤ i.heap.geometry.n)
    (unwritten : (r : ℕ) → m ≤ r → r < length p.fates → IsUnwritten p r) where
  abbrev w : ℕ
  w = i.heap.geometry.w

  abbrev n : ℕ
  n = i.heap.geometry.n

  count : length i.heap.words / w ≡ n
  count = ap (λ y. y / w) valid.word_count ∙ mul-div_left n (w_positive i.heap valid)

  fated : (r : ℕ) → r < n → r < length p.fates
  fated r lt = omega (arith, lt, made.fates.one_each)

  module _ (xs : List ℕ) (zeros : ℕ) (long : length xs ≡ m * w) (whole : i.heap.words ≡ xs ++ replicate zeros 0) where
    rest : zeros ≡ (n - m) * w
    rest =
        let parts : (m + (n - m)) * w ≡ m * w + (n - m) * w = add-mul m (n - m) w in
        let all : m + (n - m) ≡ n = omega (arith, few) in
        let same : (m + (n - m)) * w ≡ n * w = ap (λ x. x * w) all in
        omega (arith, parts, same, valid.word_count, long, ap length whole, length-append xs (replicate zeros 0), length-replicate {A = ℕ} zeros 0)

    front : (r : ℕ) → r < m → slice_of w r i.heap.words ≡ slice_of w r xs
    front r lt = ap (slice_of w r) whole ∙ slice_left w m r xs (replicate zeros 0) long lt

    -- behind a beginning of so many words stand zeros
    behind : (ws : List ℕ) (r : ℕ) → length ws ≡ m * w → m ≤ r → r < n → slice_of w r (ws ++ replicate zeros 0) ≡ replicate w 0
    behind ws r size le lt =
        let at : r ≡ m + (r - m) = omega (arith, le) in
        ap (λ k. slice_of w k (ws ++ replicate zeros 0)) at ∙ slice_right w m (r - m) ws (replicate zeros 0) size ∙ ap (λ z. slice_of w (r - m) (replicate z 0)) rest
        ∙ zero_slice w (r - m) (n - m) (omega (arith, le, lt))

    pub front_writable : EverySlice (IsWritable w p.fates p.gathered p.patches p.firsts) w xs
    front_writable r lt =
        let slices : length xs / w ≡ m = ap (λ y. y / w) long ∙ mul-div_left m (w_positive i.heap valid) in
        let low : r < m = subst (λ k. r < k) slices lt in
        subst (IsWritable w p.fates p.gathered p.patches p.firsts r) (front r low) (all_writable p i set l valid made r (omega (arith, low, few, count)))

    -- what is not written stays 0
    zeros_stay : (r : ℕ) → m ≤ r → r < n → by_fate w p.gathered p.patches r (fate_at p.fates r) (slice_of w r i.heap.words) ≡ replicate w 0
    zeros_stay r le lt = go (fate_at p.fates r) refl
      where
        no : IsUnwritten p r
        no = unwritten r le (fated r lt)

        can : IsWritable w p.fates p.gathered p.patches p.firsts r (slice_of w r i.heap.words)
        can = all_writable p i set l valid made r (omega (arith, lt, count))

        nothing : patched p.patches (r * w) (slice_of w r i.heap.words) ≡ slice_of w r i.heap.words
        nothing =
            let a : ℕ = slice_index p.firsts r in
            let b : ℕ = slice_index p.firsts (r + 1) in
            let none : b - a ≡ 0 = omega (arith, no.patched) in
            patched_part p.patches (r * w) (slice_of w r i.heap.words) a b can.begins (subst (λ k. AreBefore p.patches (r * w + k) b) (sym can.size) can.ends)
            ∙ ap (λ k. patched (take k (drop a p.patches)) (r * w) (slice_of w r i.heap.words)) none

        go : (x : Fate) → fate_at p.fates r ≡ x → by_fate w p.gathered p.patches r x (slice_of w r i.heap.words) ≡ replicate w 0
        go Freed e = refl
        go (Filled t) e = absurd (no.filled t e)
        go Kept e = nothing ∙ ap (slice_of w r) whole ∙ behind xs r long le lt

    -- so the words that are written and the zeros behind them are all words after
    pub written_all : (ws : List ℕ) → length ws ≡ length xs → ((r : ℕ) → r < length xs / w → slice_of w r ws ≡ by_fate w p.gathered p.patches r (fate_at p.fates r) (slice_of w r xs))
        → ws ++ replicate zeros 0 ≡ written p w i.heap.words
    written_all ws size each =
        let slices : length xs / w ≡ m = ap (λ y. y / w) long ∙ mul-div_left m (w_positive i.heap valid) in
        let all : length (ws ++ replicate zeros 0) ≡ n * w =
        length-append ws (replicate zeros 0) ∙ omega (arith, size, ap length whole, length-append xs (replicate zeros 0), valid.word_count) in
        let f : ℕ → List ℕ = λ r. by_fate w p.gathered p.patches r (fate_at p.fates r) (slice_of w r i.heap.words) in
        let one : (r : ℕ) → r < n → slice_of w r (ws ++ replicate zeros 0) ≡ f r =
        λ r lt. elim (cases_lt r m) [
          | inl low ↦
              slice_left w m r ws (replicate zeros 0) (size ∙ long) low ∙ each r (omega (arith, low, slices))
              ∙ ap (by_fate w p.gathered p.patches r (fate_at p.fates r)) (sym (front r low))
          | inr high ↦ behind ws r (size ∙ long) high lt ∙ sym (zeros_stay r high lt)
        ] in
        slices_from f w n 0 (ws ++ replicate zeros 0) all (λ k lt. let same : 0 + k ≡ k = omega arith in one k lt ∙ ap f (sym same))
        ∙ ap (λ k. flat_map f (range_with_len 0 k)) (sym count)

  abbrev to : List ℕ
  to = to_space i.heap l

  abbrev dead : List ℕ
  dead = unnamed_regions (heap_moved i.heap set l)

  -- a region behind is not of to-space
  not_filled : (r : ℕ) → m ≤ r → r < n → has set r ≡ false → has dead r ≡ false → has to r ≡ false
  not_filled r le lt a b =
      let both : has (set ++ dead) r ≡ false = has_both set dead r ∙ (λ q. a q || b q) in
      let once : Distinct to = Distinct-take (need i.heap l) (free_regions i.heap) (free_distinct i.heap (w_positive i.heap valid)) in
      elim (has_fate (set ++ dead) to once r) [
        | is_freed h f ↦ absurd (false≢true (sym both ∙ h))
        | is_filled t less at x y f ↦ absurd ((unwritten r le (fated r lt)).filled t (made.fates.each r lt ∙ f))
        | is_kept x y f ↦ y
      ]

  -- so it is free after, or as it was
  region_after : (r : ℕ) → m ≤ r → r < n → (slice_index_or p.regions r free_region ≡ free_region) ⊎ (slice_index_or p.regions r free_region ≡ region i.heap r)
  region_after r le lt =
      let moved : region (heap_moved i.heap set l) r ≡ new_region i.heap set l r = get_or-map-range_with_len (new_region i.heap set l) 0 n r r free_region lt (omega arith) in
      let after : slice_index_or p.regions r free_region ≡ cond (has dead r) free_region (region (heap_moved i.heap set l) r) =
      ap (λ rs. slice_index_or rs r free_region) made.table
      ∙ get_or-map-range_with_len (λ x. cond (has dead x) free_region (region (heap_moved i.heap set l) x)) 0 n r r free_region lt (omega arith) in
      elim (cases_Bool (has dead r)) [
        | inl t ↦ inl (after ∙ (λ q. cond (t q) free_region (region (heap_moved i.heap set l) r)))
        | inr b ↦
            let stays = after ∙ (λ q. cond (b q) free_region (moved q)) in
            elim (cases_Bool (has set r)) [
              | inl t ↦ inl (stays ∙ (λ q. cond (t q) free_region (cond (has to r) (region_with Ordinary (end_in i.heap l r)) (region i.heap r))))
              | inr a ↦
                  let c = not_filled r le lt a b in
                  inr (stays ∙ (λ q. cond (a q) free_region (cond (c q) (region_with Ordinary (end_in i.heap l r)) (region i.heap r))))
            ]
      ]

  -- the words that are used after are among those that were written
  pub laid_after : (laid : ℕ) → AreLaid w i.heap.regions laid → laid ≤ m * w → AreLaid w p.regions (m * w)
  laid_after laid are le r j lt small used = elim (cases_lt r m) [
    | inl low ↦ let fits = next_slice w r m low in omega (arith, fits, small)
    | inr high ↦
        let size : length p.regions ≡ n = ap length made.table ∙ length-map-range_with_len (λ x. cond (has dead x) free_region (region (heap_moved i.heap set l) x)) 0 n in
        let there : r < n = omega (arith, lt, size) in
        elim (region_after r high there) [
          | inl free ↦ let top = ap (λ (x : Region). x.top) free in absurd (omega (arith, used, top))
          | inr same ↦
              let top = ap (λ (x : Region). x.top) same in
              let old : r * w + j < laid = are r j (omega (arith, there, valid.region_count)) small (omega (arith, used, top)) in
              omega (arith, old, le)
        ]
  ]

-- the regions that so many words begin
pub whole_regions : (laid w n total : ℕ) → 0 < w → total ≡ n * w → laid ≤ total → (laid ≤ div_ceil laid w * w) × (div_ceil laid w ≤ n)
whole_regions laid w n total pos all le =
    let c = div_ceil_times laid w pos in (
      c.0,
      elim (cases_lt n (div_ceil laid w)) [
        | inl more ↦
            let rows : (n + 1) * w ≤ div_ceil laid w * w = mul-le-mul_right w (omega (arith, more)) in
            let sum : (n + 1) * w ≡ n * w + w = omega arith in
            absurd (omega (arith, c.1, rows, sum, all, le))
        | inr few ↦ few
      ],
    )

-- how many regions are written: at least those that the laid words begin
pub region_count : (laid w n total used written m : ℕ) → 0 < w → total ≡ n * w → laid ≤ total → used ≡ div_ceil laid w → written ≤ n → m ≡ max used written → (laid ≤ m * w) × (m ≤ n)
region_count laid w n total used written m pos all le is few e =
    let whole = whole_regions laid w n total pos all le in
    let rows : used * w ≤ m * w = mul-le-mul_right w (omega (arith, e)) in
    let same : used * w ≡ div_ceil laid w * w = ap (λ k. k * w) is in
    (omega (arith, whole.0, rows, same), omega (arith, whole.1, is, few, e))
