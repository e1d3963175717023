-- Numbers that a list has, and first occurrences.
use Rattle.std.proofs.Common.{◌≡◌, ℕ, not, List, ◌++◌, sym, ap, ◌∙◌, Contains, zero, suc, true, [], ◌∷◌, arith}
use Rattle.g1_words.specs.Lists.{has}
use Rattle.g1_words.specs.Survivors.{firsts}
use Rattle.g1_words.proofs.Members.{has_from_contains, Contains-from_has}
use Rattle.g1_words.proofs.Firsts.{Contains-firsts, firsts_member, Distinct-firsts, firsts-append, filter-same}
use Rattle.g1_words.proofs.Logic.{same_test}
use Rattle.g1_words.proofs.Lists.{firsts_distinct}

pub has_same : (xs ys : List ℕ) (a : ℕ) → (Contains xs a → Contains ys a) → (Contains ys a → Contains xs a) → has xs a ≡ has ys a
has_same xs ys a f g = same_test (has xs a) (has ys a) (λ e. has_from_contains ys a (f (Contains-from_has xs a e))) (λ e. has_from_contains xs a (g (Contains-from_has ys a e)))

-- a list of one
pub one_member : {A : Type 0} (y x : A) → Contains (y ∷ []) x → y ≡ x
one_member y x (zero, b, e) = e
one_member y x (suc k, b, e) = absurd (omega (arith, b))

pub only_one : (y x : ℕ) → has (y ∷ []) x ≡ true → x ≡ y
only_one y x t = sym (one_member y x (Contains-from_has (y ∷ []) x t))

pub has_one : (y x : ℕ) → x ≡ y → has (y ∷ []) x ≡ true
has_one y x e = has_from_contains (y ∷ []) x (zero, omega arith, sym e)

pub has_firsts : (xs : List ℕ) (a : ℕ) → has (firsts xs) a ≡ has xs a
has_firsts xs a = has_same (firsts xs) xs a (firsts_member xs a) (Contains-firsts xs a)

pub firsts_again : (xs : List ℕ) → firsts (firsts xs) ≡ firsts xs
firsts_again xs = firsts_distinct (firsts xs) (Distinct-firsts xs)

pub firsts_more : (xs ys : List ℕ) → firsts (firsts xs ++ ys) ≡ firsts (xs ++ ys)
firsts_more xs ys =
    firsts-append (firsts xs) ys
    ∙ (λ i. firsts_again xs i ++ filter-same (λ y. not (has (firsts xs) y)) (λ y. not (has xs y)) (firsts ys) (λ x. ap not (has_firsts xs x)) i)
    ∙ sym (firsts-append xs ys)
