-- The elements of a list from one place up to another.
use Rattle.std.proofs.Common.{◌≡◌, ℕ, zero, suc, ◌+◌, ◌-◌, ◌<◌, ◌≤◌, List, [], ◌∷◌, ◌++◌, length, get_or, take, drop, refl, sym, ◌∙◌, ap, arith}

module _ {A : Type 0} (d : A) where
  -- the first of them, and the others
  pub window_first : (xs : List A) (from to : ℕ) → from < to → to ≤ length xs → take (to - from) (drop from xs) ≡ get_or xs from d ∷ take (to - (from + 1)) (drop (from + 1) xs)
  window_first [] from to some within = absurd (omega (arith, some, within))
  window_first (x ∷ xs) zero zero some within = absurd (omega (arith, some))
  window_first (x ∷ xs) zero (suc to) some within =
      let whole : suc to - zero ≡ suc to = omega arith in
      let rest : suc to - (zero + 1) ≡ to = omega arith in
      ap (λ n. take n (x ∷ xs)) whole ∙ ap (λ n. x ∷ take n xs) (sym rest)
  window_first (x ∷ xs) (suc from) zero some within = absurd (omega (arith, some))
  window_first (x ∷ xs) (suc from) (suc to) some within =
      let whole : suc to - suc from ≡ to - from = omega arith in
      let rest : suc to - (suc from + 1) ≡ to - (from + 1) = omega arith in
      let next : suc from + 1 ≡ suc (from + 1) = omega arith in
      ap (λ n. take n (drop from xs)) whole ∙ window_first xs from to (omega (arith, some)) (omega (arith, within))
      ∙ ap (λ n. get_or xs from d ∷ take n (drop (from + 1) xs)) (sym rest)
      ∙ ap (λ n. get_or xs from d ∷ take (suc to - (suc from + 1)) (drop n (x ∷ xs))) (sym next)

  take_more : (xs : List A) (n : ℕ) → n < length xs → take (n + 1) xs ≡ take n xs ++ get_or xs n d ∷ []
  take_more [] n lt = absurd (omega (arith, lt))
  take_more (x ∷ xs) zero lt = refl
  take_more (x ∷ xs) (suc n) lt = let next : suc n + 1 ≡ suc (n + 1) = omega arith in ap (λ k. take k (x ∷ xs)) next ∙ ap (λ ys. x ∷ ys) (take_more xs n (omega (arith, lt)))

  -- those before the last one, and the last one
  pub window_last : (xs : List A) (from to : ℕ) → from < to → to ≤ length xs → take (to - from) (drop from xs) ≡ take (to - 1 - from) (drop from xs) ++ get_or xs (to - 1) d ∷ []
  window_last [] from to some within = absurd (omega (arith, some, within))
  window_last (x ∷ xs) zero to some within =
      let whole : to - zero ≡ to - 1 + 1 = omega (arith, some) in
      let front : to - 1 - zero ≡ to - 1 = omega arith in
      ap (λ n. take n (x ∷ xs)) whole ∙ take_more (x ∷ xs) (to - 1) (omega (arith, some, within)) ∙ ap (λ n. take n (x ∷ xs) ++ get_or (x ∷ xs) (to - 1) d ∷ []) (sym front)
  window_last (x ∷ xs) (suc from) zero some within = absurd (omega (arith, some))
  window_last (x ∷ xs) (suc from) (suc zero) some within = absurd (omega (arith, some))
  window_last (x ∷ xs) (suc from) (suc (suc to)) some within =
      let whole : suc (suc to) - suc from ≡ suc to - from = omega arith in
      let front : suc (suc to) - 1 - suc from ≡ suc to - 1 - from = omega arith in
      let last : suc (suc to) - 1 ≡ suc (suc to - 1) = omega arith in
      ap (λ n. take n (drop from xs)) whole ∙ window_last xs from (suc to) (omega (arith, some)) (omega (arith, within))
      ∙ ap (λ n. take n (drop from xs) ++ get_or xs (suc to - 1) d ∷ []) (sym front)
      ∙ ap (λ n. take (suc (suc to) - 1 - suc from) (drop from xs) ++ get_or (x ∷ xs) n d ∷ []) (sym last)
