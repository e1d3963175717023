-- What is made of each number, one after another.
use Rattle.std.proofs.Common.{◌≡◌, ℕ, zero, suc, ◌+◌, List, [], ◌∷◌, ◌++◌, arith, subst}
use Rattle.std.specs.List.{range_with_len, AllZip}

module _ {X : Type 0} (makes : ℕ → X → Type 0) where
  one_more : (a n : ℕ) (xs : List X) (x : X) → AllZip makes (range_with_len a n) xs → makes (a + n) x → AllZip makes (range_with_len a (suc n)) (xs ++ x ∷ [])
  one_more a zero [] x z m = let same : a + 0 ≡ a = omega arith in (subst (λ k. makes k x) same m, tt)
  one_more a zero (y ∷ ys) x z m = absurd z
  one_more a (suc n) [] x z m = absurd z
  one_more a (suc n) (y ∷ ys) x z m = let same : a + suc n ≡ a + 1 + n = omega arith in (z.0, one_more (a + 1) n ys x z.1 (subst (λ k. makes k x) same m))

  -- one more, after those below n
  pub made_more : (n : ℕ) (xs : List X) (x : X) → AllZip makes (range_with_len 0 n) xs → makes n x → AllZip makes (range_with_len 0 (n + 1)) (xs ++ x ∷ [])
  made_more n xs x z m =
      let same : n ≡ 0 + n = omega arith in
      let next : suc n ≡ n + 1 = omega arith in
      subst (λ k. AllZip makes (range_with_len 0 k) (xs ++ x ∷ [])) next (one_more 0 n xs x z (subst (λ k. makes k x) same m))
