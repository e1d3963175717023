-- The used words of a store's heap are laid.
use Rattle.std.proofs.Common.{◌≡◌, ◌≢◌, ◌⊎◌, ◌≤◌, ◌<◌, ◌&&◌, inl, inr, ℕ, zero, suc, ◌+◌, ◌*◌, Bool, true, false, cond, List, length, set, get_or, replicate, slice_index_or, Option, refl, sym, ap, ◌∙◌, arith, subst}
use Rattle.std.proofs.Common.{ltb, leb, leb-true, le-ltb, length-set, get_or-set_other}
use Rattle.std.proofs.lemmas.Bool.{cases_lt}
use Rattle.std.proofs.Math.Nat.{mul-le-mul_right}
use Rattle.g1_words.specs.Geometry.{Geometry}
use Rattle.g1_words.specs.Heap.{Heap, free_region}
use Rattle.g1_words.specs.Valid.{IsValid}
use Rattle.g1_words.specs.Words.{AreLaid}
use Rattle.g1_words.specs.declared.region.Region.{Region}
use Rattle.g1_trace.specs.Mutator.{run_region}
use Rattle.g1_trace.specs.Placing.{table_heap, run_taken}
use Rattle.g1_trace.proofs.Tables.{at_taken, taken_size}

-- no word of a free region is used
free_top : (n r : ℕ) → (slice_index_or (replicate n free_region) r free_region).top ≡ 0
free_top zero r = refl
free_top (suc n) zero = refl
free_top (suc n) (suc r) = free_top n r

pub none_used : (rs : List Region) (n r i : ℕ) → rs ≡ replicate n free_region → i < (slice_index_or rs r free_region).top → ⊥
none_used rs n r i e few =
    let there : i < (slice_index_or (replicate n free_region) r free_region).top = subst (λ l. i < (slice_index_or l r free_region).top) e few in
    omega (arith, there, free_top n r)

-- more is laid
pub laid_more : (w : ℕ) (rs : List Region) (laid more : ℕ) → laid ≤ more → AreLaid w rs laid → AreLaid w rs more
laid_more w rs laid more le are r i lt small few = omega (arith, are r i lt small few, le)

-- a heap one of whose words was written
abbrev pub with_word : Heap → ℕ → ℕ → Heap
with_word h at value = record { geometry = h.geometry; words = set h.words at value; regions = h.regions; roots = h.roots; current = h.current }

pub word_written : (h before : Heap) (at value : ℕ) (words : List ℕ) → before ≡ h → words ≡ set before.words at value → IsValid (with_word h at value) →
    IsValid (record { geometry = before.geometry; words = words; regions = before.regions; roots = before.roots; current = before.current })
word_written h before at value words e is valid =
    let there : IsValid (with_word before at value) = subst (λ (h : Heap). IsValid (with_word h at value)) (sym e) valid in
    subst (λ ws. IsValid (record { geometry = before.geometry; words = ws; regions = before.regions; roots = before.roots; current = before.current })) (sym is) there

pub same_heap : (g : Geometry) (ws vs : List ℕ) (rs : List Region) (roots : List ℕ) (current : Option ℕ) → ws ≡ vs →
    (let a : Heap = record { geometry = g; words = ws; regions = rs; roots = roots; current = current } in
    let b : Heap = record { geometry = g; words = vs; regions = rs; roots = roots; current = current } in a ≡ b)
same_heap g ws vs rs roots current e = λ t. record { geometry = g; words = e t; regions = rs; roots = roots; current = current }

-- ---- regions that are taken

-- regions change within a stretch of words that is laid, and no others
pub laid_within : (w : ℕ) (rs qs : List Region) (laid more first last : ℕ) → AreLaid w rs laid → laid ≤ more → last * w ≤ more → length qs ≡ length rs →
    ((q : ℕ) → q < length rs → (q < first) ⊎ (last ≤ q) → slice_index_or qs q free_region ≡ slice_index_or rs q free_region) → AreLaid w qs more
laid_within w rs qs laid more first last are le room same others q i lt small few = elim (cases_lt q first) [
  | inl before ↦ kept (inl before)
  | inr ge ↦ elim (cases_lt q last) [
    | inl within ↦
        let rows : (q + 1) * w ≤ last * w = mul-le-mul_right w (omega (arith, within)) in
        let sum : (q + 1) * w ≡ q * w + w = omega arith in
        omega (arith, rows, sum, small, room)
    | inr past ↦ kept (inr past)
  ]
]
  where
    kept : (q < first) ⊎ (last ≤ q) → q * w + i < more
    kept out =
        let there : q < length rs = omega (arith, lt, same) in
        let used : i < (slice_index_or rs q free_region).top = subst (λ (x : Region). i < x.top) (others q there out) few in
        let k = are q i there small used in omega (arith, k, le)

-- one region
pub laid_one : (w : ℕ) (rs : List Region) (laid more r : ℕ) (x : Region) → AreLaid w rs laid → laid ≤ more → (r + 1) * w ≤ more → AreLaid w (set rs r x) more
laid_one w rs laid more r x are le room =
    laid_within w rs (set rs r x) laid more r (r + 1) are le room (length-set rs r x) (λ q lt out. get_or-set_other rs r q x free_region (apart q out))
  where
    apart : (q : ℕ) → (q < r) ⊎ (r + 1 ≤ q) → q ≢ r
    apart q (inl lt) e = omega (arith, lt, e)
    apart q (inr ge) e = omega (arith, ge, e)

-- a region outside of a run isn't taken
not_taken : (r m q : ℕ) → (q < r) ⊎ (r + m ≤ q) → (leb r q && ltb q (r + m)) ≡ false
not_taken r m q (inl lt) = by (leb r q) refl
  where
    by : (b : Bool) → leb r q ≡ b → (b && ltb q (r + m)) ≡ false
    by true e = let l = leb-true r q e in absurd (omega (arith, l, lt))
    by false e = refl
not_taken r m q (inr ge) = by (leb r q)
  where
    by : (b : Bool) → (b && ltb q (r + m)) ≡ false
    by true = le-ltb q (r + m) ge
    by false = refl

-- a run of regions
pub laid_run : (w : ℕ) (rs : List Region) (laid more r size m : ℕ) → AreLaid w rs laid → laid ≤ more → (r + m) * w ≤ more → AreLaid w (run_taken w rs r size m) more
laid_run w rs laid more r size m are le room =
    laid_within w rs (run_taken w rs r size m) laid more r (r + m) are le room (taken_size w rs r size m) (λ q lt out.
    at_taken w rs r size m q lt ∙ ap (λ b. cond b (run_region (table_heap w rs) r size q) (get_or rs q free_region)) (not_taken r m q out))
