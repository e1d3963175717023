-- The last element of a list.
use Rattle.std.proofs.Common.{◌≡◌, ◌≤◌, ℕ, ◌+◌, ◌-◌, List, [], ◌∷◌, ◌++◌, length, get_or, drop, set, refl, sym, ◌∙◌, ap, subst, arith}
use Rattle.std.specs.Prelude.{All}
use Rattle.std.proofs.lemmas.List.{set_at}
use Rattle.g1_words.specs.declared.region.Region.{Region}

module _ {A : Type 0} where
  length_push : (below : List A) (q : A) → length (below ++ q ∷ []) ≡ length below + 1
  length_push [] q = refl
  length_push (x ∷ below) q = let more = length_push below q in omega (arith, more)

  at_end : (below : List A) (q d : A) (n : ℕ) → n ≡ length below → get_or (below ++ q ∷ []) n d ≡ q
  at_end [] q d n e = ap (λ k. get_or (q ∷ []) k d) e
  at_end (x ∷ below) q d n e = ap (λ k. get_or (x ∷ (below ++ q ∷ [])) k d) e ∙ at_end below q d (length below) refl

  -- the element that was read there, and the list with another one in its place
  pub last_set : (xs below : List A) (x q : A) (n : ℕ) → xs ≡ below ++ q ∷ [] → n ≡ length xs → x ≡ get_or xs (n - 1) x
      → (x ≡ q) × ((z : A) → set xs (n - 1) z ≡ below ++ z ∷ [])
  last_set xs below x q n e m v =
      let l = ap length e in
      let more = length_push below q in
      let place : length below ≡ n - 1 = omega (arith, l, more, m) in (
        v ∙ ap (λ ys. get_or ys (n - 1) x) e ∙ at_end below q x (n - 1) (sym place),
        (λ z. ap (λ ys. set ys (n - 1) z) e ∙ set_at below q [] z (n - 1) place),
      )

  -- a list has one last element
  pub one_end : (xs ys : List A) (x y : A) → xs ++ x ∷ [] ≡ ys ++ y ∷ [] → (xs ≡ ys) × (x ≡ y)
  one_end [] [] x y e = (refl, ap (λ zs. get_or zs 0 x) e)
  one_end [] (b ∷ []) x y e = absurd (let l = ap length e in omega (arith, l))
  one_end [] (b ∷ d ∷ ys) x y e = absurd (let l = ap length e in omega (arith, l))
  one_end (a ∷ []) [] x y e = absurd (let l = ap length e in omega (arith, l))
  one_end (a ∷ d ∷ xs) [] x y e = absurd (let l = ap length e in omega (arith, l))
  one_end (a ∷ xs) (b ∷ ys) x y e =
      let rest = one_end xs ys x y (ap (drop 1) e) in
      let first = ap (λ zs. get_or zs 0 a) e in
      ((λ t. first t ∷ rest.0 t), rest.1)

-- the top of the last region is within a bound that all tops keep
pub last_within : (w : ℕ) (below : List Region) (q : Region) (rs : List Region) → rs ≡ below ++ q ∷ [] → All (λ r. r.top ≤ w) rs → q.top ≤ w
last_within w below q rs e tops =
    let all : All (λ (r : Region). r.top ≤ w) (below ++ q ∷ []) = subst (All (λ r. r.top ≤ w)) e tops in
    subst (λ (r : Region). r.top ≤ w) (at_end below q q (length below) refl) (all (length below) q (let more = length_push below q in omega (arith, more)))
