-- A list can be put in order, by a test that orders its members.
use Rattle.std.proofs.Common.{◌≡◌, ◌≢◌, ℕ, ◌⊎◌, inl, inr, Bool, true, false, cond, List, [], ◌∷◌, IsTrue, refl, sym, subst, Contains, zero, arith}
use Rattle.std.specs.List.Sorted.{IsPermutation}
use Rattle.std.proofs.lemmas.List.Sorted.{IsPermutation-refl, IsPermutation-sym, IsPermutation-cons, IsPermutation-trans, IsPermutation-middle, Contains-permutation}
use Rattle.g1_words.proofs.Members.{Contains-first, Contains-later, cons_cases, none_contains}
use Rattle.g1_words.proofs.Ordered.{Ordered}

-- the number before the first that it is before
abbrev pub inserted : (ℕ → ℕ → Bool) → ℕ → List ℕ → List ℕ
inserted p x [] = x ∷ []
inserted p x (y ∷ ys) = cond (p x y) (x ∷ y ∷ ys) (y ∷ inserted p x ys)

-- each number put into its place
abbrev pub sorted : (ℕ → ℕ → Bool) → List ℕ → List ℕ
sorted p [] = []
sorted p (x ∷ xs) = inserted p x (sorted p xs)

-- two lists change places
swapped : (x y : ℕ) (ys : List ℕ) → IsPermutation (x ∷ y ∷ ys) (y ∷ x ∷ ys)
swapped x y ys = IsPermutation-sym (y ∷ x ∷ ys) (x ∷ y ∷ ys) (IsPermutation-middle (y ∷ []) x ys)

pub inserted_moves : (p : ℕ → ℕ → Bool) (x : ℕ) (ys : List ℕ) → IsPermutation (x ∷ ys) (inserted p x ys)
inserted_moves p x [] = IsPermutation-refl (x ∷ [])
inserted_moves p x (y ∷ ys) =
    elim (p x y) as (λ b. IsPermutation (x ∷ y ∷ ys) (cond b (x ∷ y ∷ ys) (y ∷ inserted p x ys))) [
      | true ↦ IsPermutation-refl (x ∷ y ∷ ys)
      | false ↦ IsPermutation-trans (x ∷ y ∷ ys) (y ∷ x ∷ ys) (y ∷ inserted p x ys) (swapped x y ys) (IsPermutation-cons y (x ∷ ys) (inserted p x ys) (inserted_moves p x ys))
    ]

-- a list holds what it held
pub sorted_moves : (p : ℕ → ℕ → Bool) (xs : List ℕ) → IsPermutation xs (sorted p xs)
sorted_moves p [] = IsPermutation-refl []
sorted_moves p (x ∷ xs) =
    IsPermutation-trans (x ∷ xs) (x ∷ sorted p xs) (inserted p x (sorted p xs)) (IsPermutation-cons x xs (sorted p xs) (sorted_moves p xs)) (inserted_moves p x (sorted p xs))

Contains-permuted : (xs ys : List ℕ) (r : ℕ) → IsPermutation xs ys → Contains ys r → Contains xs r
Contains-permuted xs ys r p i = Contains-permutation ys xs r (IsPermutation-sym xs ys p) i

-- among the members of D any two compare, and the comparison goes on along a chain
module _ (p : ℕ → ℕ → Bool) (D : ℕ → Type 0)
    (any_two : (r q : ℕ) → D r → D q → r ≢ q → IsTrue (p r q) ⊎ IsTrue (p q r))
    (chain : (r q s : ℕ) → D r → D q → D s → IsTrue (p r q) → IsTrue (p q s) → IsTrue (p r s)) where
  abbrev R : ℕ → ℕ → Type 0
  R r q = IsTrue (p r q)

  inserted_at : (x y : ℕ) (ys : List ℕ) (b : Bool) → p x y ≡ b → D x → ((r : ℕ) → Contains (y ∷ ys) r → D r) → (x ≢ y) → Ordered R (y ∷ ys) → Ordered R (inserted p x ys)
      → Ordered R (cond b (x ∷ y ∷ ys) (y ∷ inserted p x ys))
  inserted_at x y ys true e dx d ne o rest = (
    (λ z i. elim (cons_cases y ys z i) [
      | inl f ↦ subst (R x) f e
      | inr k ↦ chain x y z dx (d y (Contains-first y ys)) (d z i) e (o.0 z k)
    ]),
    o,
  )
  inserted_at x y ys false e dx d ne o rest = (
    (λ z i. elim (cons_cases x ys z (Contains-permuted (x ∷ ys) (inserted p x ys) z (inserted_moves p x ys) i)) [
      | inl f ↦ elim (any_two x y dx (d y (Contains-first y ys)) ne) [ inl t ↦ absurd (cc (t, e)) | inr t ↦ subst (R y) f t ]
      | inr k ↦ o.0 z k
    ]),
    rest,
  )

  inserted_ordered : (x : ℕ) (ys : List ℕ) → D x → ((r : ℕ) → Contains ys r → D r) → (Contains ys x → ⊥) → Ordered R ys → Ordered R (inserted p x ys)
  inserted_ordered x [] dx d new o = ((λ z i. absurd (none_contains z i)), tt)
  inserted_ordered x (y ∷ ys) dx d new o =
      inserted_at x y ys (p x y) refl dx d (λ e. new (zero, omega arith, sym e)) o
      (inserted_ordered x ys dx (λ r i. d r (Contains-later y ys r i)) (λ i. new (Contains-later y ys x i)) o.1)

  -- a list of members, each once, in order
  pub sorted_ordered : (xs : List ℕ) → ((r : ℕ) → Contains xs r → D r) → Ordered (λ r q. r ≢ q) xs → Ordered R (sorted p xs)
  sorted_ordered [] d apart = tt
  sorted_ordered (x ∷ xs) d apart =
      inserted_ordered x (sorted p xs) (d x (Contains-first x xs))
      (λ r i. d r (Contains-later x xs r (Contains-permuted xs (sorted p xs) r (sorted_moves p xs) i)))
      (λ i. apart.0 x (Contains-permuted xs (sorted p xs) x (sorted_moves p xs) i) refl)
      (sorted_ordered xs (λ r i. d r (Contains-later x xs r i)) apart.1)
