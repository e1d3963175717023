-- Lists that are made alike of members that are told alike.
use Rattle.std.proofs.Common.{◌≡◌, zero, Bool, ◌||◌, List, [], ◌∷◌, ◌++◌, map, flat_map, Contains, arith, refl}
use Rattle.std.specs.List.{list_any}
use Rattle.g1_words.proofs.Members.{Contains-later}

pub map_same_in : {A B : Type 0} (f g : A → B) (xs : List A) → ((x : A) → Contains xs x → f x ≡ g x) → map f xs ≡ map g xs
map_same_in f g [] e = refl
map_same_in f g (x ∷ xs) e = λ q. e x (zero, omega arith, refl) q ∷ map_same_in f g xs (λ y k. e y (Contains-later x xs y k)) q

pub flat_map_same_in : {A B : Type 0} (f g : A → List B) (xs : List A) → ((x : A) → Contains xs x → f x ≡ g x) → flat_map f xs ≡ flat_map g xs
flat_map_same_in f g [] e = refl
flat_map_same_in f g (x ∷ xs) e = λ q. e x (zero, omega arith, refl) q ++ flat_map_same_in f g xs (λ y k. e y (Contains-later x xs y k)) q

-- tests that agree on the members find the same
pub any_same_in : {A : Type 0} (p q : A → Bool) (xs : List A) → ((x : A) → Contains xs x → p x ≡ q x) → list_any p xs ≡ list_any q xs
any_same_in p q [] e = refl
any_same_in p q (x ∷ xs) e = λ t. e x (zero, omega arith, refl) t || any_same_in p q xs (λ y k. e y (Contains-later x xs y k)) t
