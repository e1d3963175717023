-- A word at the beginning of some bytes, and what follows it.
use Rattle.std.proofs.Common.{◌≡◌, ◌≢◌, ℕ, zero, suc, ◌<◌, List, [], ◌∷◌, ◌++◌, length, get_or, take, drop, refl, sym, ◌∙◌, ap, arith}
use Rattle.std.specs.Prelude.{⊤}

-- the bytes are at their end, or go on with a space
abbrev pub IsWordEnd : List ℕ → Type 0
IsWordEnd [] = ⊤
IsWordEnd (b ∷ bs) = b ≡ 32

-- no byte of the list is a space
abbrev pub NoSpace : List ℕ → Type 0
NoSpace xs = (k : ℕ) → k < length xs → get_or xs k 0 ≢ 32

no_space_tail : (x : ℕ) (xs : List ℕ) → NoSpace (x ∷ xs) → NoSpace xs
no_space_tail x xs n k lt = n (suc k) (omega (arith, lt))

-- bytes have one first word
pub one_split : (a b xs ys : List ℕ) → NoSpace a → NoSpace b → IsWordEnd xs → IsWordEnd ys → a ++ xs ≡ b ++ ys → (a ≡ b) × (xs ≡ ys)
one_split [] [] xs ys n m p q e = (refl, e)
one_split [] (b ∷ bs) [] ys n m p q e = let l = ap length e in absurd (omega (arith, l))
one_split [] (b ∷ bs) (x ∷ xs) ys n m p q e = let f : x ≡ b = ap (λ zs. get_or zs 0 0) e in absurd (m 0 (omega arith) (sym f ∙ p))
one_split (a ∷ at) [] xs [] n m p q e = let l = ap length e in absurd (omega (arith, l))
one_split (a ∷ at) [] xs (y ∷ ys) n m p q e = let f : a ≡ y = ap (λ zs. get_or zs 0 0) e in absurd (n 0 (omega arith) (f ∙ q))
one_split (a ∷ at) (b ∷ bs) xs ys n m p q e =
    let first : a ≡ b = ap (λ zs. get_or zs 0 0) e in
    let rest = one_split at bs xs ys (no_space_tail a at n) (no_space_tail b bs m) p q (ap (drop 1) e) in
    ((λ t. first t ∷ rest.0 t), rest.1)

pub get_take : (i k : ℕ) (xs : List ℕ) → k < length (take i xs) → (get_or (take i xs) k 0 ≡ get_or xs k 0) × (k < i)
get_take zero k xs lt = absurd (omega (arith, lt))
get_take (suc i) k [] lt = absurd (omega (arith, lt))
get_take (suc i) zero (x ∷ xs) lt = (refl, omega arith)
get_take (suc i) (suc k) (x ∷ xs) lt = let r = get_take i k xs (omega (arith, lt)) in (r.0, omega (arith, r.1))
