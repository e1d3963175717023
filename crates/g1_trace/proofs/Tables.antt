-- The table of regions as the regions of a run are taken one after another.
use Rattle.std.proofs.Common.{◌≡◌, ◌≢◌, ℕ, ◌+◌, ◌-◌, ◌*◌, ◌/◌, ◌<◌, ◌≤◌, inl, inr, Bool, true, false, cond, ◌&&◌, List, length, get_or, set, min, refl, sym, ◌∙◌, ap}
use Rattle.std.proofs.Common.{arith, eqb, ltb, leb, lt-ltb, le-ltb, le-leb, ltb-true, leb-true, eq-eqb, ext_get_or}
use Rattle.std.specs.Int.{div_ceil}
use Rattle.std.proofs.lemmas.Bool.{cases_lt, ne_eqb}
use Rattle.std.proofs.lemmas.Grind.{div_ceil_times}
use Rattle.std.proofs.lemmas.Nat.{div-mul-add}
use Rattle.std.proofs.lemmas.List.{length-set, get_or-set_same, get_or-set_other}
use Rattle.std.proofs.lemmas.List.FromFn.{get_or-map-range_with_len, length-map-range_with_len}
use Rattle.g1_words.specs.declared.region.Region.{Region}
use Rattle.g1_words.specs.declared.region.Kind.TheVariants.{HumongousFirst, Continuation}
use Rattle.g1_words.specs.Heap.{free_region, region_with}
use Rattle.g1_words.proofs.Logic.{same_test}
use Rattle.g1_trace.specs.Mutator.{run_region}
use Rattle.g1_trace.specs.Placing.{table_heap, run_taken}
use Rattle.g1_trace.proofs.Views.{equal_or_not}

-- the two ways to round up
pub rounded_up : (w size : ℕ) → 0 < w → div_ceil size w ≡ (size + (w - 1)) / w
rounded_up w size p =
    let k : (size ≤ div_ceil size w * w) × (div_ceil size w * w < size + w) = div_ceil_times size w p in
    let row : size + (w - 1) ≡ div_ceil size w * w + (size + (w - 1) - div_ceil size w * w) = omega (arith, k.0, k.1, p) in
    sym (ap (λ x. x / w) row ∙ div-mul-add (div_ceil size w) w (size + (w - 1) - div_ceil size w * w) (omega (arith, k.0, k.1, p)))

module _ (w : ℕ) (regions : List Region) (r size : ℕ) where
  -- what stands at a place once so many are taken
  pub at_taken : (m q : ℕ) → q < length regions
      → get_or (run_taken w regions r size m) q free_region ≡ cond (leb r q && ltb q (r + m)) (run_region (table_heap w regions) r size q) (get_or regions q free_region)
  at_taken m q lt = get_or-map-range_with_len (λ q. cond (leb r q && ltb q (r + m)) (run_region (table_heap w regions) r size q)
      (get_or regions q free_region)) 0 (length regions) q q free_region lt (omega arith)

  pub taken_size : (m : ℕ) → length (run_taken w regions r size m) ≡ length regions
  taken_size m = length-map-range_with_len (λ q. cond (leb r q && ltb q (r + m)) (run_region (table_heap w regions) r size q) (get_or regions q free_region)) 0 (length regions)

  not_first : (q : ℕ) → (leb r q && ltb q (r + 0)) ≡ false
  not_first q = by (leb r q) refl
    where
      by : (b : Bool) → leb r q ≡ b → (b && ltb q (r + 0)) ≡ false
      by true e = le-ltb q (r + 0) (let l = leb-true r q e in omega (arith, l))
      by false e = refl

  -- nothing is taken yet
  pub none_taken : regions ≡ run_taken w regions r size 0
  none_taken = ext_get_or free_region regions (run_taken w regions r size 0) (sym (taken_size 0))
      (λ q lt. sym (at_taken 0 q lt ∙ ap (λ b. cond b (run_region (table_heap w regions) r size q) (get_or regions q free_region)) (not_first q)))

  others_same : (i q : ℕ) → q ≢ r + i → (leb r q && ltb q (r + (i + 1))) ≡ (leb r q && ltb q (r + i))
  others_same i q n = ap (λ b. leb r q && b) (same_test (ltb q (r + (i + 1))) (ltb q (r + i))
      (λ t. let l = ltb-true q (r + (i + 1)) t in lt-ltb q (r + i) (elim (cases_lt q (r + i)) [ inl lt ↦ lt | inr ge ↦ (let e : q ≡ r + i = omega (arith, ge, l) in absurd (n e)) ]))
      (λ t. let l = ltb-true q (r + i) t in lt-ltb q (r + (i + 1)) (omega (arith, l))))

  -- the region after the first i is taken
  pub one_taken : (i : ℕ) (table : List Region) (x : Region) → r + i < length regions → table ≡ run_taken w regions r size i
      → x ≡ region_with (cond (eqb i 0) HumongousFirst Continuation) (min w (size - i * w)) → set table (r + i) x ≡ run_taken w regions r size (i + 1)
  one_taken i table x lt e is =
      ap (λ xs. set xs (r + i) x) e
      ∙ ext_get_or free_region (set (run_taken w regions r size i) (r + i) x) (run_taken w regions r size (i + 1))
      (length-set (run_taken w regions r size i) (r + i) x ∙ taken_size i ∙ sym (taken_size (i + 1)))
      (λ q l. let small : q < length regions = (let a = length-set (run_taken w regions r size i) (r + i) x in let b = taken_size i in omega (arith, l, a, b)) in
      elim (equal_or_not q (r + i)) [
        | inl n ↦ get_or-set_other (run_taken w regions r size i) (r + i) q x free_region n ∙ at_taken i q small
            ∙ ap (λ b. cond b (run_region (table_heap w regions) r size q) (get_or regions q free_region)) (sym (others_same i q n)) ∙ sym (at_taken (i + 1) q small)
        | inr here ↦ ap (λ z. get_or (set (run_taken w regions r size i) (r + i) x) z free_region) here
            ∙ get_or-set_same (run_taken w regions r size i) (r + i) x free_region (let b = taken_size i in omega (arith, lt, b))
            ∙ is ∙ sym value ∙ ap (λ b. cond b (run_region (table_heap w regions) r size (r + i)) (get_or regions (r + i) free_region)) (sym test) ∙ sym (at_taken (i + 1) (r + i) lt)
            ∙ ap (λ z. get_or (run_taken w regions r size (i + 1)) z free_region) (sym here)
      ])
    where
      test : (leb r (r + i) && ltb (r + i) (r + (i + 1))) ≡ true
      test = λ t. le-leb r (r + i) (omega arith) t && lt-ltb (r + i) (r + (i + 1)) (omega arith) t

      first : eqb (r + i) r ≡ eqb i 0
      first = elim (equal_or_not i 0) [
        | inl n ↦ ne_eqb (r + i) r (λ e. n (omega (arith, e))) ∙ sym (ne_eqb i 0 n)
        | inr z ↦ (let e : r + i ≡ r = omega (arith, z) in eq-eqb (r + i) r e ∙ sym (eq-eqb i 0 z))
      ]

      value : run_region (table_heap w regions) r size (r + i) ≡ region_with (cond (eqb i 0) HumongousFirst Continuation) (min w (size - i * w))
      value = let z : r + i - r ≡ i = omega arith in λ t. region_with (cond (first t) HumongousFirst Continuation) (min w (size - z t * w))
