-- Where regions and addresses stand in the window.
use Rattle.std.proofs.Common.{◌≡◌, ◌≤◌, ◌<◌, ℕ, zero, suc, ◌+◌, ◌*◌, ◌/◌, ◌%◌, inl, inr, true, false, cond, List, [], ◌∷◌, length, get_or, arith, refl, sym, ap, subst, ◌∙◌, Contains}
use Rattle.std.proofs.Common.{div-add-mod', eq-eqb, ne_eqb, Result, Ok, Err}
use Rattle.std.specs.List.{All}
use Rattle.std.specs.List.Sorted.{IsStrictlyIncreasing, IsBinarySearchResult}
use Rattle.std.specs.Ordering.{nat_cmp}
use Rattle.std.proofs.lemmas.List.Kept.{AllPairs-from_increasing}
use Rattle.std.proofs.lemmas.List.Sorted.{searched}
use Rattle.std.proofs.Math.Nat.{mod-lt, mul-le-mul_right}
use Rattle.std.proofs.lemmas.Bool.{cases_lt, false_from_ne_true}
use Rattle.std.proofs.lemmas.List.Elements.{Contains-get_or}
use native.Mathlib.Decide.{ℕ_discrete}
use Rattle.g1_words.specs.Lists.{has}
use Rattle.g1_words.proofs.Members.{has_from_contains, Contains-from_has, cons_cases}
use Rattle.g1_words.proofs.Ordered.{Ordered, Ordered-from_pairs}
use Rattle.g1_words.specs.Heap.{Heap}
use Rattle.g1_frontier.specs.Window.{position, place}

-- ---- what is in a list

-- a region past the heap's isn't in the window
pub past_regions : (n : ℕ) (window : List ℕ) (r : ℕ) → All (λ x. x < n) window → n ≤ r → has window r ≡ false
past_regions n window r below ge = false_from_ne_true (has window r) (λ t.
    let c = Contains-from_has window r t in
    let k = below c.0 r c.1 in omega (arith, ge, k, c.2))

-- ---- positions

-- where a region of the window stands
pub stands : (window : List ℕ) (r : ℕ) → Contains window r → (position window r < length window) × (get_or window (position window r) 0 ≡ r)
stands [] r i = absurd (omega (arith, i.1))
stands (x ∷ xs) r i = elim (ℕ_discrete x r) [
  | yes e ↦ subst (λ b. (cond b 0 (position xs r + 1) < length (x ∷ xs)) × (get_or (x ∷ xs) (cond b 0 (position xs r + 1)) 0 ≡ r)) (sym (eq-eqb x r e)) (omega arith, e)
  | no d ↦ elim (cons_cases x xs r i) [
    | inl e ↦ absurd (d e)
    | inr k ↦
        let s = stands xs r k in
        let at : suc (position xs r) ≡ position xs r + 1 = omega arith in
        subst (λ b. (cond b 0 (position xs r + 1) < length (x ∷ xs)) × (get_or (x ∷ xs) (cond b 0 (position xs r + 1)) 0 ≡ r)) (sym (ne_eqb x r d))
        (omega (arith, s.0), subst (λ n. get_or (x ∷ xs) n 0 ≡ r) at s.1)
  ]
]

position_at : (window : List ℕ) (i : ℕ) → Ordered (λ x y. x < y) window → i < length window → position window (get_or window i 0) ≡ i
position_at [] i o lt = absurd (omega (arith, lt))
position_at (x ∷ xs) zero o lt = ap (λ b. cond b 0 (position xs x + 1)) (eq-eqb x x refl)
position_at (x ∷ xs) (suc i) o lt =
    let low = o.0 (get_or xs i 0) (Contains-get_or xs i 0 (omega (arith, lt))) in
    let rest = position_at xs i o.1 (omega (arith, lt)) in
    ap (λ b. cond b 0 (position xs (get_or xs i 0) + 1)) (ne_eqb x (get_or xs i 0) (λ e. omega (arith, low, e))) ∙ (omega (arith, rest))

risen : (window : List ℕ) → IsStrictlyIncreasing window → Ordered (λ x y. x < y) window
risen window rise = Ordered-from_pairs (λ x y. x < y) window (AllPairs-from_increasing window rise)

not_falling : (window : List ℕ) → IsStrictlyIncreasing window → (i j : ℕ) → i ≤ j → j < length window → get_or window i 0 ≤ get_or window j 0
not_falling window rise i j le lt = elim (cases_lt i j) [
  | inl less ↦ let k = AllPairs-from_increasing window rise i j 0 less lt in omega (arith, k)
  | inr ge ↦ let e : i ≡ j = omega (arith, le, ge) in let k : get_or window i 0 ≡ get_or window j 0 = ap (λ n. get_or window n 0) e in omega (arith, k)
]

-- a search found the region
pub found_at : (window : List ℕ) (r : ℕ) (answer : Result ℕ ℕ) (i : ℕ) → IsStrictlyIncreasing window → IsBinarySearchResult (λ y. nat_cmp y r) window answer → answer ≡ Ok i
    → (has window r ≡ true) × (i ≡ position window r) × (i < length window)
found_at window r answer i rise found is =
    let s = searched window r (Ok i) (subst (IsBinarySearchResult (λ y. nat_cmp y r) window) is found) (not_falling window rise) in
    (has_from_contains window r (subst (Contains window) s.1 (Contains-get_or window i 0 s.0)), sym (position_at window i (risen window rise) s.0) ∙ ap (position window) s.1, s.0)

-- a region was read at a place
pub read_at : (window : List ℕ) (r i : ℕ) → IsStrictlyIncreasing window → i < length window → get_or window i 0 ≡ r → (has window r ≡ true) × (i ≡ position window r) × (i < length window)
read_at window r i rise lt e = (has_from_contains window r (subst (Contains window) e (Contains-get_or window i 0 lt)), sym (position_at window i (risen window rise) lt) ∙ ap (position window) e, lt)

-- a search found nothing
pub not_found : (window : List ℕ) (r : ℕ) (answer : Result ℕ ℕ) (i : ℕ) → IsStrictlyIncreasing window → IsBinarySearchResult (λ y. nat_cmp y r) window answer → answer ≡ Err i → has window r ≡ false
not_found window r answer i rise found is =
    let s = searched window r (Err i) (subst (IsBinarySearchResult (λ y. nat_cmp y r) window) is found) (not_falling window rise) in
    false_from_ne_true (has window r) (λ t.
    let at = stands window r (Contains-from_has window r t) in
    elim (cases_lt (position window r) i) [
      | inl lt ↦ let k = s.1 (position window r) lt in omega (arith, k, at.1)
      | inr ge ↦ let k = s.2 (position window r) ge at.0 in omega (arith, k, at.1)
    ])

-- ---- places

module _ (h : Heap) (window : List ℕ) (some : 0 < h.geometry.w) where
  abbrev w : ℕ
  w = h.geometry.w

  -- the places are those of the window's words
  pub place_below : (a : ℕ) → has window (a / h.geometry.w) ≡ true → place h window a < length window * h.geometry.w
  place_below a t =
      let s = stands window (a / w) (Contains-from_has window (a / w) t) in
      let m : (position window (a / w) + 1) * w ≤ length window * w = mul-le-mul_right w (omega (arith, s.0)) in
      omega (arith, m, mod-lt a some)

  no_less : (i j p q : ℕ) → i * w + p ≡ j * w + q → p < w → q < w → i < j → ⊥
  no_less i j p q e lp lq lt = let m : (i + 1) * w ≤ j * w = mul-le-mul_right w (omega (arith, lt)) in omega (arith, m, e, lp)

  -- no two addresses have one place
  pub place_apart : (a b : ℕ) → has window (a / h.geometry.w) ≡ true → has window (b / h.geometry.w) ≡ true → place h window b ≡ place h window a → b ≡ a
  place_apart a b t u e =
      let p : ℕ = position window (a / w) in
      let q : ℕ = position window (b / w) in
      let s = stands window (a / w) (Contains-from_has window (a / w) t) in
      let v = stands window (b / w) (Contains-from_has window (b / w) u) in
      let la = mod-lt a some in
      let lb = mod-lt b some in
      let spots : q ≡ p = elim (cases_lt q p) [
        | inl lt ↦ absurd (no_less q p (b % w) (a % w) e lb la lt)
        | inr ge ↦ elim (cases_lt p q) [ inl lt ↦ absurd (no_less p q (a % w) (b % w) (sym e) la lb lt) | inr le ↦ omega (arith, ge, le) ]
      ] in
      let regions : b / w ≡ a / w = sym v.1 ∙ ap (λ n. get_or window n 0) spots ∙ s.1 in
      let rows : q * w ≡ p * w = ap (λ x. x * w) spots in
      let firsts : b / w * w ≡ a / w * w = ap (λ x. x * w) regions in
      omega (arith, e, rows, firsts, div-add-mod' a w, div-add-mod' b w)
