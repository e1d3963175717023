-- The order by efficiency, on numbers: a region has a cost, garbage and a number.
use Rattle.std.proofs.Common.{◌≡◌, ◌≢◌, ℕ, ◌*◌, ◌<◌, ◌≤◌, ◌⊎◌, inl, inr, Bool, true, false, ◌&&◌, ◌||◌, refl, sym, arith, ltb, eqb, ltb-true, lt-ltb, eqb-true, eq-eqb, le_antisymm}
use Rattle.std.proofs.lemmas.Bool.{cases_order, false_from_ne_true, and_parts, or_cases, both_ways}
use Rattle.std.proofs.Math.Nat.{mul-le-mul_right, mul-lt-mul_of_pos_right, le_of_mul-le-mul_right, lt_of_mul-lt-mul_right}

-- the first gives more garbage for its cost; of equals it has the lower number
abbrev pub is_before : ℕ → ℕ → ℕ → ℕ → ℕ → ℕ → Bool
is_before a g r b k q = ltb (a * k) (b * g) || (eqb (a * k) (b * g) && ltb r q)

-- what the test tells where it passes
abbrev pub Before : ℕ → ℕ → ℕ → ℕ → ℕ → ℕ → Type 0
Before a g r b k q = (a * k < b * g) ⊎ ((a * k ≡ b * g) × (r < q))

-- and where it doesn't
abbrev pub NotBefore : ℕ → ℕ → ℕ → ℕ → ℕ → ℕ → Type 0
NotBefore a g r b k q = (b * g < a * k) ⊎ ((a * k ≡ b * g) × (q ≤ r))

pub before : (a g r b k q : ℕ) → is_before a g r b k q ≡ true → Before a g r b k q
before a g r b k q t =
    elim (or_cases (ltb (a * k) (b * g)) (eqb (a * k) (b * g) && ltb r q) t) [
      | inl p ↦ inl (ltb-true (a * k) (b * g) p)
      | inr p ↦ let both = and_parts (eqb (a * k) (b * g)) (ltb r q) p in inr (eqb-true (a * k) (b * g) both.0, ltb-true r q both.1)
    ]

pub is_before-true : (a g r b k q : ℕ) → Before a g r b k q → is_before a g r b k q ≡ true
is_before-true a g r b k q (inl lt) = rw (lt-ltb (a * k) (b * g) lt) refl
is_before-true a g r b k q (inr both) =
    rw (eq-eqb (a * k) (b * g) both.0, lt-ltb r q both.1)
    (elim (ltb (a * k) (b * g)) as (λ t. (t || true) ≡ true) [ true ↦ refl | false ↦ refl ])

pub not_before : (a g r b k q : ℕ) → is_before a g r b k q ≡ false → NotBefore a g r b k q
not_before a g r b k q f =
    let n : Before a g r b k q → ⊥ = λ t. both_ways (is_before a g r b k q) f (is_before-true a g r b k q t) in
    elim (cases_order (a * k) (b * g)) [
      | inl e ↦ elim (cases_order r q) [
        | inl s ↦ inr (e, omega arith)
        | inr d ↦ elim d [ inl lt ↦ absurd (n (inr (e, lt))) | inr gt ↦ inr (e, omega arith) ]
      ]
      | inr d ↦ elim d [ inl lt ↦ absurd (n (inl lt)) | inr gt ↦ inl gt ]
    ]

-- of two one at most is before the other
pub one_way : (a g r b k q : ℕ) → Before a g r b k q → Before b k q a g r → ⊥
one_way a g r b k q (inl x) (inl y) = omega arith
one_way a g r b k q (inl x) (inr y) = omega arith
one_way a g r b k q (inr x) (inl y) = omega arith
one_way a g r b k q (inr x) (inr y) = omega arith

-- and of two numbers one at least
pub one_of_two : (a g r b k q : ℕ) → r ≢ q → Before a g r b k q ⊎ Before b k q a g r
one_of_two a g r b k q ne =
    elim (cases_order (a * k) (b * g)) [
      | inl e ↦ elim (cases_order r q) [
        | inl s ↦ absurd (ne s)
        | inr d ↦ elim d [ inl lt ↦ inl (inr (e, lt)) | inr gt ↦ inr (inr (sym e, gt)) ]
      ]
      | inr d ↦ elim d [ inl lt ↦ inl (inl lt) | inr gt ↦ inr (inl gt) ]
    ]

-- no better than the second, which is no better than the third
no_better : (a g b k c m : ℕ) → 0 < k → b * g ≤ a * k → c * k ≤ b * m → c * g ≤ a * m
no_better a g b k c m some p q =
    let x : c * k * g ≤ b * m * g = mul-le-mul_right g q in
    let y : b * g * m ≤ a * k * m = mul-le-mul_right m p in
    le_of_mul-le-mul_right {k = k} (omega (arith, x, y)) some

-- worse than the second, which is no better than the third
worse_then_no_better : (a g b k c m : ℕ) → 0 < m → b * g < a * k → c * k ≤ b * m → c * g < a * m
worse_then_no_better a g b k c m some p q =
    let x : c * k * g ≤ b * m * g = mul-le-mul_right g q in
    let y : b * g * m < a * k * m = mul-lt-mul_of_pos_right p some in
    lt_of_mul-lt-mul_right k (omega (arith, x, y))

-- no better than the second, which is worse than the third
no_better_then_worse : (a g b k c m : ℕ) → 0 < g → b * g ≤ a * k → c * k < b * m → c * g < a * m
no_better_then_worse a g b k c m some p q =
    let x : c * k * g < b * m * g = mul-lt-mul_of_pos_right q some in
    let y : b * g * m ≤ a * k * m = mul-le-mul_right m p in
    lt_of_mul-lt-mul_right k (omega (arith, x, y))

as_good : (a g b k c m : ℕ) → 0 < k → a * k ≡ b * g → b * m ≡ c * k → a * m ≡ c * g
as_good a g b k c m some p q =
    le_antisymm
    (no_better c m b k a g some (omega (arith, q)) (omega (arith, p)))
    (no_better a g b k c m some (omega (arith, p)) (omega (arith, q)))

-- with garbage, what is before goes on along a chain
pub before_chain : (a g r b k q c m s : ℕ) → 0 < g → 0 < k → 0 < m → Before a g r b k q → Before b k q c m s → Before a g r c m s
before_chain a g r b k q c m s x y z (inl p) (inl t) = inl (no_better_then_worse c m b k a g z (omega arith) p)
before_chain a g r b k q c m s x y z (inl p) (inr t) = inl (no_better_then_worse c m b k a g z (omega arith) p)
before_chain a g r b k q c m s x y z (inr p) (inl t) = inl (worse_then_no_better c m b k a g x t (omega arith))
before_chain a g r b k q c m s x y z (inr p) (inr t) = inr (as_good a g b k c m y p.0 t.0, omega arith)

-- and so does what isn't before
pub not_before_chain : (a g r b k q c m s : ℕ) → 0 < g → 0 < k → 0 < m → NotBefore a g r b k q → NotBefore b k q c m s → NotBefore a g r c m s
not_before_chain a g r b k q c m s x y z (inl p) (inl t) = inl (worse_then_no_better a g b k c m z p (omega arith))
not_before_chain a g r b k q c m s x y z (inl p) (inr t) = inl (worse_then_no_better a g b k c m z p (omega arith))
not_before_chain a g r b k q c m s x y z (inr p) (inl t) = inl (no_better_then_worse a g b k c m x (omega arith) t)
not_before_chain a g r b k q c m s x y z (inr p) (inr t) = inr (as_good a g b k c m y p.0 t.0, omega arith)

pub is_before-false : (a g r b k q : ℕ) → NotBefore a g r b k q → is_before a g r b k q ≡ false
is_before-false a g r b k q n = false_from_ne_true (is_before a g r b k q) (λ t. elim (before a g r b k q t) [
  | inl x ↦ elim n [ inl y ↦ omega arith | inr y ↦ omega arith ]
  | inr x ↦ elim n [ inl y ↦ omega arith | inr y ↦ omega arith ]
])
