-- What is asked of survivors makes them fit.
use Rattle.std.proofs.Common.{◌≡◌, ℕ, zero, suc, inl, inr, ◌+◌, ◌<◌, ◌≤◌, List, length, get_or, All, sym, ◌∙◌, ap, subst, arith}
use Rattle.std.proofs.lemmas.Bool.{cases_lt}
use Rattle.std.proofs.lemmas.Bool.Decides.{Decides-eqb}
use Rattle.std.proofs.lemmas.List.{get_or_default, get_or_past}
use Rattle.std.specs.List.Sorted.{IsStrictlyIncreasing}
use Rattle.std.proofs.lemmas.Map.Made.{IsDistinct-from_AllPairs}
use Rattle.std.proofs.lemmas.Map.Steps.{length-le_from_distinct_below}
use Rattle.g1_words.proofs.Bounds.{object_within}
use Rattle.g1_words.proofs.Computed.{contains_has}
use Rattle.g1_words.proofs.Lists.{all_in}
use Rattle.g1_words.proofs.Members.{Contains-from_has}
use Rattle.g1_words.proofs.Sound.{sound}
use Rattle.g1_words.specs.Heap.{Heap, free_region, kind, object_at, region, region_of}
use Rattle.g1_words.specs.Valid.{IsValid}
use Rattle.g1_words.specs.declared.region.Kind.TheVariants.{Free, Ordinary}
use Rattle.g1_layout.specs.Placed.{CanLay, CanPlace}

-- a number of a rising list is no less than its place
rising_at : (xs : List ℕ) (k : ℕ) → IsStrictlyIncreasing xs → k < length xs → k ≤ get_or xs k 0
rising_at xs zero f lt = omega arith
rising_at xs (suc k) f lt =
    let a = rising_at xs k f (omega arith) in
    let n : k + 1 ≡ suc k = omega arith in
    let b = subst (λ j. get_or xs k 0 < get_or xs j 0) n (f k (omega arith)) in
    omega arith

-- so there are no more than the numbers below a bound of all
pub rising_few : (xs : List ℕ) (n : ℕ) → IsStrictlyIncreasing xs → All (λ x. x < n) xs → length xs ≤ n
rising_few xs n f g = at (length xs) (λ k lt. let a = rising_at xs k f lt in let b = g k 0 lt in omega arith)
  where
    at : (m : ℕ) → ((k : ℕ) → k < m → k < n) → m ≤ n
    at zero h = omega arith
    at (suc m) h = let k = h m (omega arith) in omega arith

module _ (h : Heap) (set l : List ℕ) (valid : IsValid h) (can : CanPlace h set l) where
  size_fits : (k d : ℕ) → k < length l → (0 < (object_at h (get_or l k d)).size) × ((object_at h (get_or l k d)).size ≤ h.geometry.w)
  size_fits k d lt = (sound h valid).fits (object_at h (get_or l k d)) (can.objects k d lt) (can.ordinary (region_of h (get_or l k d)) (can.in_set k d lt))

  in_words : All (λ a. a < length h.words) l
  in_words k d lt =
      let o = object_within h valid (object_at h (get_or l k d)) (contains_has h (object_at h (get_or l k d)) valid.shaped (can.objects k d lt)) in
      let s = size_fits k d lt in
      let n = valid.word_count in
      omega arith

  few : length l ≤ length h.words
  few = length-le_from_distinct_below l (length h.words) (IsDistinct-from_AllPairs Decides-eqb l can.distinct)
      (λ q e. all_in (λ a. a < length h.words) l q in_words (Contains-from_has l q e))

  -- survivors that can be placed can be laid
  pub can_lay : CanLay h l
  can_lay = record {
    in_words = in_words;
    filled = λ k d lt. (size_fits k d lt).0;
    small = λ k d lt. (size_fits k d lt).1;
    few = let a = few in let n = valid.word_count in let m = valid.limits.words_most in omega arith;
  }

  used : (r : ℕ) → kind h r ≡ Ordinary → r < h.geometry.n
  used r e = elim (cases_lt r h.geometry.n) [
    | inl lt ↦ lt
    | inr ge ↦
        let n = valid.region_count in
        let free : region h r ≡ free_region = get_or_past h.regions r free_region (omega arith) in
        let clash : Ordinary ≡ Free = sym e ∙ ap (λ q. q.kind) free in
        cc
  ]

  -- the set's regions are the heap's
  pub set_in_heap : All (λ r. r < h.geometry.n) set
  set_in_heap k d lt = used (get_or set k d) (can.ordinary (get_or set k d) (k, lt, get_or_default set k (get_or set k d) d lt))
