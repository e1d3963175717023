-- How often a number stands in a list.
use Rattle.std.proofs.Common.{◌≡◌, ◌≢◌, ℕ, ◌+◌, ◌<◌, ◌≤◌, List, [], ◌∷◌, ◌++◌, arith, eqb, cond}
use Rattle.std.proofs.lemmas.List.Sums.{sum_by_push, sum_by-append, sum_by-cons}
use Rattle.std.proofs.lemmas.Bool.Decides.{nat_tests}
use Rattle.g1_deal.specs.Dealer.{times, once_below}

pub times_cons : (x y : ℕ) (ys : List ℕ) → times x (y ∷ ys) ≡ cond (eqb y x) 1 0 + times x ys
times_cons x y ys = sum_by-cons (λ z. cond (eqb z x) 1 0) y ys

pub times_push : (x n : ℕ) (xs : List ℕ) → times x (xs ++ n ∷ []) ≡ times x xs + cond (eqb n x) 1 0
times_push x n xs = sum_by_push (λ y. cond (eqb y x) 1 0) xs n

pub times_append : (x : ℕ) (xs ys : List ℕ) → times x (xs ++ ys) ≡ times x xs + times x ys
times_append x xs ys = sum_by-append (λ y. cond (eqb y x) 1 0) xs ys

pub once_more : (x n : ℕ) → once_below x (n + 1) ≡ once_below x n + cond (eqb n x) 1 0
once_more x n = grind (arith, nat_tests)

pub once_most : (x m n : ℕ) → m ≤ n → once_below x m ≤ once_below x n
once_most x m n le = grind (arith, nat_tests)

pub once_one : (x n : ℕ) → once_below x n ≤ 1
once_one x n = grind (arith, nat_tests)

pub none_below : (x : ℕ) → once_below x 0 ≡ 0
none_below x = grind (arith, nat_tests)

pub once_at : (x n : ℕ) → x < n → once_below x n ≡ 1
once_at x n lt = grind (arith, nat_tests)

pub once_past : (x n : ℕ) → n ≤ x → once_below x n ≡ 0
once_past x n le = grind (arith, nat_tests)

-- a number that stands in the rest above k is not below k
pub not_before : (x k n t : ℕ) → k ≤ n → 0 < t → t + once_below x k ≡ once_below x n → k ≤ x
not_before x k n t le some e = grind (arith, nat_tests)

pub below_once : (x n : ℕ) → 0 < once_below x n → x < n
below_once x n h = grind (arith, nat_tests)

pub same_one : (x : ℕ) → ◌≡◌ {A = ℕ} (cond (eqb x x) 1 0) 1
same_one x = grind (arith, nat_tests)

pub other_none : (y x : ℕ) → x ≢ y → ◌≡◌ {A = ℕ} (cond (eqb y x) 1 0) 0
other_none y x ne = grind (arith, nat_tests)
