-- Lists whose elements a function turns, and the counts of the last region's line.
use Rattle.std.proofs.Common.{◌≡◌, ℕ, zero, suc, List, [], ◌∷◌, ◌++◌, get_or, map, set, refl, ap}

-- an element of a list that is seen by a function
module _ {A B : Type 0} (f : A → B) where
  pub map_set : (xs : List A) (n : ℕ) (y : A) → map f (set xs n y) ≡ set (map f xs) n (f y)
  map_set [] zero y = refl
  map_set [] (suc n) y = refl
  map_set (x ∷ xs) zero y = refl
  map_set (x ∷ xs) (suc n) y = ap (λ ys. f x ∷ ys) (map_set xs n y)

  pub map_at : (xs : List A) (n : ℕ) (d : A) → get_or (map f xs) n (f d) ≡ f (get_or xs n d)
  map_at [] zero d = refl
  map_at [] (suc n) d = refl
  map_at (x ∷ xs) zero d = refl
  map_at (x ∷ xs) (suc n) d = map_at xs n d

  pub map_push : (xs : List A) (y : A) → map f (xs ++ y ∷ []) ≡ map f xs ++ f y ∷ []
  map_push [] y = refl
  map_push (x ∷ xs) y = ap (λ ys. f x ∷ ys) (map_push xs y)
