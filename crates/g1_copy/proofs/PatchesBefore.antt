-- How many patches, which are by address, lie before an address, and before each region.
use Rattle.std.proofs.Common.{◌≡◌, ◌<◌, ◌≤◌, ◌+◌, ◌-◌, ◌*◌, ℕ, inl, inr, true, false, List, [], ◌∷◌, ◌++◌, length, get_or, map, length-append, sym, ◌∙◌, ap, subst, arith, ltb, ltb-true, lt-ltb}
use Rattle.std.specs.List.{AllWithin}
use Rattle.std.specs.List.Sorted.{IsNonDecreasingBy, IsStrictlyIncreasing}
use Rattle.std.proofs.lemmas.Bool.{cases_lt, false≢true}
use Rattle.std.proofs.lemmas.List.{get_or-append_right, get_or-map, get_or_append_left, length-map}
use Rattle.std.proofs.lemmas.List.Sorted.{IsNonDecreasingBy-from_all_adjacent}
use Rattle.g1_copy.specs.Patches.{AreBefore}

-- slots that rise never fall
pub slots_rise : (ps : List (ℕ × ℕ)) → IsStrictlyIncreasing (map (λ x. x.0) ps) → IsNonDecreasingBy (λ (x : ℕ × ℕ). x.0) ps
slots_rise ps rising = IsNonDecreasingBy-from_all_adjacent (λ (x : ℕ × ℕ). x.0) ps (λ k d lt.
    let count = length-map ps (λ (x : ℕ × ℕ). x.0) in
    let one = get_or-map (λ (x : ℕ × ℕ). x.0) ps k d 0 (omega arith) in
    let next = get_or-map (λ (x : ℕ × ℕ). x.0) ps (k + 1) d 0 lt in
    let r = rising k (omega (arith, lt, count)) in
    omega (arith, r, one, next))

-- those that pass the test are before
pub first_by : (ps : List (ℕ × ℕ)) (end n : ℕ) → n ≤ length ps → AllWithin (λ (x : ℕ × ℕ). ltb x.0 end ≡ true) ps 0 n →
    AllWithin (λ (x : ℕ × ℕ). ltb x.0 end ≡ false) ps n (length ps) → AreBefore ps end n
first_by ps end n within below above = record {
  within = within;
  before = λ k lt. ltb-true (get_or ps k (0, 0)).0 end (below k (0, 0) (omega arith) lt);
  behind = λ k le lt. elim (cases_lt (get_or ps k (0, 0)).0 end) [
    | inl less ↦ absurd (false≢true (sym (above k (0, 0) le lt) ∙ lt-ltb (get_or ps k (0, 0)).0 end less))
    | inr ge ↦ ge
  ];
}

-- the first n of the regions have been counted
pub record Counted (w n : ℕ) (ps : List (ℕ × ℕ)) (firsts : List ℕ) : Type 0 where
  pub count : length firsts ≡ n
  pub each : (r : ℕ) → r < n → AreBefore ps (r * w) (get_or firsts r 0)

-- one region more
pub Counted-step : (w n : ℕ) (ps : List (ℕ × ℕ)) (firsts : List ℕ) (x : ℕ) → Counted w n ps firsts → AreBefore ps (n * w) x → Counted w (n + 1) ps (firsts ++ x ∷ [])
Counted-step w n ps firsts x before one = record {
  count = length-append firsts (x ∷ []) ∙ omega (arith, before.count);
  each = λ r lt. elim (cases_lt r n) [
    | inl less ↦ subst (AreBefore ps (r * w)) (sym (get_or_append_left firsts (x ∷ []) 0 r (omega (arith, less, before.count)))) (before.each r less)
    | inr ge ↦
        let same : n ≡ r = omega arith in
        let none : r - n ≡ 0 = omega arith in
        let at : get_or (firsts ++ x ∷ []) r 0 ≡ x = get_or-append_right firsts (x ∷ []) n r 0 before.count ge ∙ ap (λ k. get_or (x ∷ []) k 0) none in
        subst (AreBefore ps (r * w)) (sym at) (subst (λ k. AreBefore ps (k * w) x) same one)
  ];
}
